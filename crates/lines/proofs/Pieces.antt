-- The lines of a text, by its first line.

use Rattle.std.proofs.Common.{◌≡◌, ℕ, zero, ◌+◌, ◌-◌, ◌<◌, ◌≤◌, min, true, false, cond, eqb, List, [], ◌∷◌, ◌++◌, length, get_or, take, drop, refl, ap, ◌∙◌, ⊎_elim, arith, ne_eqb}
use Rattle.std.specs.List.{flat_map, IsFirstMatchOrLen}
use Rattle.lines.specs.Lines.{Free, lines_of, onto}
use Rattle.std.proofs.lemmas.List.{take_more, take_all, drop_all, take_at, take_rest}
use Rattle.std.proofs.lemmas.Bool.{cases_lt}
use Rattle.std.proofs.lemmas.Bool.Decides.{nat_tests}
use Rattle.lines.proofs.Cuts.{free-tail, free-take, cut_at}

lines_step : (b : ℕ) (s : List ℕ) → (b ≡ 10 → ⊥) → lines_of (b ∷ s) ≡ onto b (lines_of s)
unfolding lines_of
lines_step b s h = rw (ne_eqb b 10 h)

pub lines_cut : (s rest : List ℕ) → Free 10 s → lines_of (s ++ 10 ∷ rest) ≡ (s ++ 10 ∷ []) ∷ lines_of rest
unfolding lines_of
lines_cut [] rest f = refl
lines_cut (b ∷ s) rest f = rw (ne_eqb b 10 (f zero (omega arith)), lines_cut s rest (free-tail 10 b s f))

pub lines-last : (b : ℕ) (s : List ℕ) → Free 10 (b ∷ s) → lines_of (b ∷ s) ≡ (b ∷ s) ∷ []
unfolding lines_of
lines-last b [] f = rw (ne_eqb b 10 (f zero (omega arith)))
lines-last b (c ∷ s) f = lines_step b (c ∷ s) (f zero (omega arith)) ∙ ap (onto b) (lines-last c s (free-tail 10 b (c ∷ s) f))

joined-onto : (b : ℕ) (ls : List (List ℕ)) → flat_map (λ (l : List ℕ). l) (onto b ls) ≡ b ∷ flat_map (λ (l : List ℕ). l) ls
joined-onto b [] = refl
joined-onto b (l ∷ ls) = refl

-- The lines of a text, one after another, are the text.
pub joined-lines : (s : List ℕ) → flat_map (λ l. l) (lines_of s) ≡ s
unfolding lines_of
joined-lines [] = refl
joined-lines (b ∷ s) =
    elim (eqb b 10) as (λ v. flat_map (λ (l : List ℕ). l) (cond v ((b ∷ []) ∷ lines_of s) (onto b (lines_of s))) ≡ b ∷ s) [
      | true ↦ ap (λ (t : List ℕ). b ∷ t) (joined-lines s)
      | false ↦ joined-onto b (lines_of s) ∙ ap (λ (t : List ℕ). b ∷ t) (joined-lines s)
    ]

pub lines-nil : lines_of [] ≡ []
unfolding lines_of
lines-nil = refl

lines-free : (s : List ℕ) → 0 < length s → Free 10 s → lines_of s ≡ s ∷ []
lines-free [] h f = absurd (omega (arith, h))
lines-free (b ∷ s) h f = lines-last b s f

-- The first line of a text goes up to its first byte 10, or to the end.
pub lines-first-by-size : (s : List ℕ) (u size : ℕ) → 0 < length s → ((k : ℕ) → k < u → get_or s k 0 ≡ 10 → ⊥) → (u < length s → get_or s u 0 ≡ 10) → size ≡ min (u + 1) (length s) → lines_of s ≡ take size s ∷ lines_of (drop size s)
lines-first-by-size s u size h f g e =
    ⊎_elim
    (λ (l : u < length s).
    let n : size ≡ u + 1 = omega arith in
    let t = take_more s u 0 l in
    let ten = g l in
    let cut = lines_cut (take u s) (drop (u + 1) s) (free-take 10 s u f) in
    rw n (ap lines_of (cut_at 10 s u l ten) ∙ cut ∙ ap (λ (p : List ℕ). p ∷ lines_of (drop (u + 1) s)) (cc)))
    (λ (l : length s ≤ u).
    let n : length s ≤ size = omega arith in
    let all = lines-free s h (λ i k. f i (omega arith)) in
    rw (take_all size s n, drop_all size s n, lines-nil) all)
    (cases_lt u (length s))

-- The same, where the text is given as that line and the rest.
pub lines-first : (s l rest : List ℕ) (u : ℕ) → s ≡ l ++ rest → length l ≡ min (u + 1) (length s) → 0 < length l →
    IsFirstMatchOrLen (λ b. eqb b 10) s u → lines_of s ≡ l ∷ lines_of (take (length s - length l) (drop (length l) s))
lines-first s l rest u e n h first =
    let before : (k : ℕ) → k < u → get_or s k 0 ≡ 10 → ⊥ = λ k m z. grind (arith, nat_tests, first.0 k 0 (omega arith) m) in
    let ten : u < length s → get_or s u 0 ≡ 10 = λ m. grind (arith, nat_tests, first.1 m 0) in
    let t : take (length l) s ≡ l = ap (take (length l)) e ∙ take_at l rest (length l) refl in
    let d : take (length s - length l) (drop (length l) s) ≡ drop (length l) s = take_rest s (length l) in
    let r = lines-first-by-size s u (length l) (omega arith) before ten n in
    rw d (cc)
