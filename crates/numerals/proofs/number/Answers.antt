use Rattle.std.proofs.Common.{◌≡◌, ℕ, ◌^◌, ◌<◌, ◌≤◌, length, get_or, ap, ◌∙◌, arith, rules}
use native.Mathlib.Nat.{pow-le-pow_right}
use Rattle.std.proofs.lemmas.List.{take_all}
use Rattle.std.proofs.lemmas.Bool.Decides.{nat_tests}
use Rattle.std.specs.Int.{IsInRange}
use Rattle.numerals.proofs.Decimals.{Numeral, read_on, numeral-from-decimal, decimal-from-numeral, numeral-small}
use Rattle.numerals.proofs.number.Goals as goal
use Rattle.numerals.proofs.number.Goals.{then-text-lt2, else-text-lt2+in_default-1}

-- Eight digits leave room for one more.
room : (i n : ℕ) → i ≤ 8 → n < 10 ^ i → n < 100000000
room i n h l =
    let p : 10 ^ i ≤ 10 ^ 8 = pow-le-pow_right (omega arith) h in omega arith

pub returns-then-is_empty : goal.returns-then-is_empty
returns-then-is_empty c = λ x e h. let m = numeral-from-decimal _ x e h in grind (arith, nat_tests, m.some, m.short)

pub returns-in-48 : goal.returns-in-48
returns-in-48 c = λ x e h. (numeral-from-decimal _ x e h).plain (omega arith) (omega arith)

pub returns-then-not-is_ascii_digit : goal.returns-then-not-is_ascii_digit
returns-then-not-is_ascii_digit c =
    λ x e h.
    let m = (numeral-from-decimal _ x e h).digits c.loop-b.b-index c.loop-b-test.true in
    let q = c.if-not-is_ascii_digit.ensures.cases in
    omega arith

pub overflow_mul-n : goal.overflow_mul-n
overflow_mul-n c =
    let b : c.loop-b.n < 100000000 = room c.loop-b.b-index c.loop-b.n (omega arith) c.loop-b.invariant.1 in
    search rules

pub overflow_add-n : goal.overflow_add-n
overflow_add-n c =
    let b : c.loop-b.n < 100000000 = room c.loop-b.b-index c.loop-b.n (omega arith) c.loop-b.invariant.1 in
    let d : IsInRange 48 57 (get_or c.args.text.now c.loop-b.b-index 0) = c.if-not-is_ascii_digit.ensures.cases in
    search rules

pub returns : goal.returns
returns c =
    let s = c.args.text.now in
    let plain : 1 < length s → get_or s 0 0 ≡ 48 → ⊥ =
    elim c.if-text-lt2.branch [ then-text-lt2 w ↦ λ l _. grind (arith, nat_tests) | else-text-lt2+in_default-1 w ↦ λ _ z. omega arith ] in
    let some : 0 < length s = grind (arith, nat_tests) in
    let m : Numeral s =
    record { some = some; short = omega arith; digits = λ k h. c.loop-b.invariant.2 k (omega arith); plain = plain } in
    let t = take_all c.loop-b.b-index s c.loop-b-test.false in
    let v : c.loop-b.n ≡ read_on 0 s = c.loop-b.invariant.0 ∙ ap (read_on 0) t in
    (rw v (decimal-from-numeral s m), rw v (numeral-small s m))
