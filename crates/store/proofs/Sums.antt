-- Laws of the windows' starts: each is the sum of the lengths before it.
use Rattle.std.proofs.Common.{◌≡◌, ℕ, zero, suc, ◌+◌, ◌*◌, ◌<◌, ◌≤◌, List, [], ◌∷◌, length, get_or, take, sum, sym, refl, ap, ◌∙◌, arith}
use Rattle.std.specs.List.{AllByRecursion}
use Rattle.std.proofs.lemmas.List.{get_or_default, same_lists, take_all}
use Rattle.std.proofs.lemmas.List.Sums.{sum_by-cons, sum_by_more, sum_by-take-le}
use Rattle.std.proofs.ByRecursion.{sum_by_le}
use Rattle.layout.specs.Fresh.{starts_from}

pub length-starts : (a : ℕ) (ns : List ℕ) → length (starts_from a ns) ≡ length ns + 1
length-starts a [] = refl
length-starts a (n ∷ ns) = let e = length-starts (a + n) ns in omega arith

pub starts-sum : (a : ℕ) (ns : List ℕ) (j d : ℕ) → j ≤ length ns → get_or (starts_from a ns) j d ≡ a + sum (take j ns)
starts-sum a [] zero d l = omega arith
starts-sum a [] (suc j) d l = absurd (omega arith)
starts-sum a (n ∷ ns) zero d l = omega arith
starts-sum a (n ∷ ns) (suc j) d l =
    let e = starts-sum (a + n) ns j d (omega arith) in
    let s = sum_by-cons (λ x. x) n (take j ns) in omega arith

-- Each start is the one before and its window's length.
pub starts-next : (b : ℕ) (ns : List ℕ) (j : ℕ) → j < length ns → get_or (starts_from b ns) (suc j) 0 ≡ get_or (starts_from b ns) j 0 + get_or ns j 0
starts-next b ns j l =
    let z : suc j ≡ j + 1 = omega arith in
    let a = starts-sum b ns j 0 (omega arith) in
    let c = starts-sum b ns (j + 1) 0 (omega arith) in
    let m = sum_by_more (λ x. x) ns j 0 l in rw z (omega arith)

-- The last window ends after all words.
pub starts-end : (ns : List ℕ) (n : ℕ) → length ns ≡ n → get_or (starts_from 0 ns) n 0 ≡ sum ns
starts-end ns n e =
    let s = starts-sum 0 ns n 0 (omega arith) in
    let t = ap sum (take_all n ns (omega arith)) in omega arith

-- Numbers that are those sums are the starts.
pub sums-starts : (xs ns : List ℕ) → length xs ≡ length ns + 1 → ((j : ℕ) → j ≤ length ns → get_or xs j 0 ≡ sum (take j ns)) → xs ≡ starts_from 0 ns
sums-starts xs ns n h =
    same_lists xs (starts_from 0 ns) (n ∙ sym (length-starts 0 ns))
    (λ k d l.
    let s = starts-sum 0 ns k d (omega arith) in
    let e = get_or_default xs k d 0 l in
    let f = h k (omega arith) in omega (arith, s, e, f))

-- No sum of the first lengths is over the limit.
pub sum-narrow : (ns : List ℕ) (j : ℕ) → AllByRecursion (λ n. n ≤ 65536) ns → sum (take j ns) ≤ length ns * 65536
sum-narrow ns j h =
    let a = sum_by-take-le (λ x. x) ns j in
    let b = sum_by_le (λ x. x) 65536 ns h in omega arith
