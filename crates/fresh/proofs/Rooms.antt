-- Laws of the windows' lengths.
use Rattle.std.proofs.Common.{◌≡◌, ℕ, zero, suc, ◌+◌, ◌*◌, ◌<◌, ◌≤◌, true, false, ◌&&◌, leb, List, [], ◌∷◌, ◌++◌, length, get_or, take, drop, set, Bool, MatchBool, sym, refl, ap, ◌∙◌, arith}
use Rattle.std.specs.List.{AllByRecursion, AllWithin, HoldsAt}
use Rattle.std.proofs.lemmas.List.{append_assoc, length-set, take_more, take_more_set, drop_more, drop_all, flat_map_more, length-append, length-take, length-drop}
use Rattle.std.proofs.Math.Bool.{and-false}
use Rattle.std.proofs.lemmas.Bool.{and_parts, leb-true}
use borrow.Rule.Slice.PartMut.{put_mid}
use Rattle.fresh.specs.declared.windows.Windows.{Windows}
use Rattle.fresh.specs.Windows.{of_kind, lengths, narrow, windows_fit}

-- Every kind has four windows.
pub length-lengths : (ws : List Windows) → length (lengths ws) ≡ 4 * length ws
unfolding lengths
length-lengths [] = refl
length-lengths (w ∷ ws) = let e = length-lengths ws in omega arith

pub lengths_none : lengths [] ≡ []
unfolding lengths
lengths_none = refl

-- The windows of one kind more.
pub lengths-more : (ws : List Windows) (k : ℕ) (d : Windows) → k < length ws → lengths (take (k + 1) ws) ≡ lengths (take k ws) ++ of_kind (get_or ws k d)
unfolding lengths
lengths-more ws k d l = rw (take_more ws k d l) (sym (flat_map_more of_kind [] (take k ws) (get_or ws k d)))

-- A window's length stands at its kind's place and its space code.
pub get_or-lengths : (ws : List Windows) (k e : ℕ) (d : Windows) → k < length ws → e < 4 → get_or (lengths ws) (4 * k + e) 0 ≡ get_or (of_kind (get_or ws k d)) e 0
unfolding lengths
get_or-lengths [] k e d l f = absurd (omega arith)
get_or-lengths (w ∷ ws) zero zero d l f = refl
get_or-lengths (w ∷ ws) zero (suc zero) d l f = refl
get_or-lengths (w ∷ ws) zero (suc (suc zero)) d l f = refl
get_or-lengths (w ∷ ws) zero (suc (suc (suc zero))) d l f = refl
get_or-lengths (w ∷ ws) zero (suc (suc (suc (suc e)))) d l f = absurd (omega arith)
get_or-lengths (w ∷ ws) (suc k) e d l f =
    let z : 4 * suc k + e ≡ suc (suc (suc (suc (4 * k + e)))) = omega arith in
    rw z (get_or-lengths ws k e d (omega arith) f)

-- Windows that fit are all narrow.
pub fit-narrow : (ws : List Windows) → windows_fit ws ≡ true → AllByRecursion (λ n. n ≤ 65536) (lengths ws)
unfolding lengths windows_fit
fit-narrow [] e = tt
fit-narrow (w ∷ ws) e =
    let a = and_parts (narrow w) (windows_fit ws) e in
    let b = and_parts (leb w.dynamic 65536) (leb w.fixed 65536 && leb w.read_only 65536) a.0 in
    let c = and_parts (leb w.fixed 65536) (leb w.read_only 65536) b.1 in
    let d = leb-true w.dynamic 65536 b.0 in
    (d, (d, (leb-true w.fixed 65536 c.0, (leb-true w.read_only 65536 c.1, fit-narrow ws a.1))))

-- No window is left that could fail to fit.
pub fit_none : (ws : List Windows) (i : ℕ) → length ws ≤ i → windows_fit (drop i ws) ≡ true
unfolding windows_fit
fit_none ws i l = rw (drop_all i ws l) refl

-- The windows that are left decide whether all fit.
pub fit-more : (ws : List Windows) (i : ℕ) (d : Windows) → i < length ws → narrow (get_or ws i d) ≡ true → windows_fit (drop i ws) ≡ windows_fit (drop (i + 1) ws)
unfolding windows_fit
fit-more ws i d l e = rw (drop_more ws i d l, e) refl

pub fit-less : (ws : List Windows) (i : ℕ) (d : Windows) → i < length ws → narrow (get_or ws i d) ≡ false → windows_fit (drop i ws) ≡ false
unfolding windows_fit
fit-less ws i d l e = rw (drop_more ws i d l, e) refl

-- All windows fit, or there is one that does not.
pub fit-all : (ws : List Windows) → AllWithin (λ w. narrow w ≡ true) ws 0 (length ws) → windows_fit ws ≡ true
unfolding windows_fit
fit-all [] h = refl
fit-all (w ∷ ws) h = rw (h 0 w (omega arith) (omega arith), fit-all ws (λ k d a b. h (suc k) d (omega arith) (omega arith))) refl

pub fit-some : (ws : List Windows) (k : ℕ) → k < length ws → HoldsAt (λ w. narrow w ≡ false) ws k → windows_fit ws ≡ false
unfolding windows_fit
fit-some [] k l h = absurd (omega arith)
fit-some (w ∷ ws) zero l h = rw (h w) refl
fit-some (w ∷ ws) (suc k) l h = rw (fit-some ws k (omega arith) h) (and-false (narrow w))

pub fit-cases : (ws : List Windows) (r : Bool) → MatchBool r (AllWithin (λ w. narrow w ≡ true) ws 0 (length ws)) ((k : ℕ) × (k < length ws) × HoldsAt (λ w. narrow w ≡ false) ws k) → r ≡ windows_fit ws
fit-cases ws true h = sym (fit-all ws h)
fit-cases ws false h = sym (fit-some ws h.0 h.1 h.2)

-- A part that is written over keeps the length.
pub length-put : (a k : ℕ) (xs ys : List ℕ) → length ys ≡ k → a + k ≤ length xs → length (put_mid a k xs ys) ≡ length xs
length-put a k xs ys e l =
    let b = length-append (take a xs) (ys ++ drop k (drop a xs)) in
    let c = length-append ys (drop k (drop a xs)) in
    let d = length-take a xs in
    let f = length-drop k (drop a xs) in
    let g = length-drop a xs in omega (arith, b, c, d, f, g, e, l)

-- Four words written one after another.
pub take-four : (xs : List ℕ) (i a b c d : ℕ) → i + 3 < length xs → take (i + 4) (set (set (set (set xs i a) (i + 1) b) (i + 2) c) (i + 3) d) ≡ take i xs ++ (a ∷ (b ∷ (c ∷ (d ∷ []))))
take-four xs i a b c d l =
    let xs₁ = set xs i a in
    let xs₂ = set xs₁ (i + 1) b in
    let xs₃ = set xs₂ (i + 2) c in
    let n₁ = length-set xs i a in
    let n₂ = length-set xs₁ (i + 1) b in
    let n₃ = length-set xs₂ (i + 2) c in
    let e₄ : i + 4 ≡ i + 3 + 1 = omega arith in
    let e₃ : i + 3 ≡ i + 2 + 1 = omega arith in
    let e₂ : i + 2 ≡ i + 1 + 1 = omega arith in
    let t₁ : take (i + 1) xs₁ ≡ take i xs ++ (a ∷ []) = take_more_set xs i a (omega arith) in
    let t₂ : take (i + 2) xs₂ ≡ take (i + 1) xs₁ ++ (b ∷ []) = rw e₂ (take_more_set xs₁ (i + 1) b (omega arith)) in
    let t₃ : take (i + 3) xs₃ ≡ take (i + 2) xs₂ ++ (c ∷ []) = rw e₃ (take_more_set xs₂ (i + 2) c (omega arith)) in
    let t₄ : take (i + 4) (set xs₃ (i + 3) d) ≡ take (i + 3) xs₃ ++ (d ∷ []) = rw e₄ (take_more_set xs₃ (i + 3) d (omega arith)) in
    t₄ ∙ ap (λ ys. ys ++ (d ∷ [])) (t₃ ∙ ap (λ ys. ys ++ (c ∷ [])) (t₂ ∙ ap (λ ys. ys ++ (b ∷ [])) t₁)) ∙ simp append_assoc
