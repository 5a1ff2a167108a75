-- Texts that are cut at the first of some byte.

use Rattle.std.proofs.Common.{◌≡◌, ℕ, zero, suc, ◌+◌, ◌<◌, Bool, true, not, ◌&&◌, eqb, List, [], ◌∷◌, ◌++◌, length, get_or, take, drop, sym, refl, ap, ◌∙◌, arith, length-append}
use Rattle.std.proofs.lemmas.List.{get_or_at, get_or-take, length-take, drop_more, take-append-drop}
use Rattle.std.proofs.lemmas.Bool.Decides.{nat_tests}
use Rattle.lines.specs.Lines.{Free}

pub free-tail : (b x : ℕ) (s : List ℕ) → Free b (x ∷ s) → Free b s
free-tail b x s f i h = f (suc i) (omega arith)

pub free-append : (b : ℕ) (s t : List ℕ) → Free b s → Free b t → Free b (s ++ t)
free-append b [] t f g i h = g i h
free-append b (x ∷ s) t f g zero h = f zero (omega arith)
free-append b (x ∷ s) t f g (suc i) h = free-append b s t (free-tail b x s f) g i (omega arith)

-- A test for `Free` that computes.
abbrev pub lacks : ℕ → List ℕ → Bool
lacks b [] = true
lacks b (x ∷ s) = not (eqb x b) && lacks b s

pub free-from-lacks : (b : ℕ) (s : List ℕ) → lacks b s ≡ true → Free b s
free-from-lacks b [] t i h e = omega arith
free-from-lacks b (x ∷ s) t zero h e = grind (arith, nat_tests)
free-from-lacks b (x ∷ s) t (suc i) h e = free-from-lacks b s (grind (arith, nat_tests)) i (omega arith) e

pub free-take : (b : ℕ) (s : List ℕ) (n : ℕ) → ((k : ℕ) → k < n → get_or s k 0 ≡ b → ⊥) → Free b (take n s)
free-take b s n f i h e =
    let l : i < n = omega (arith, length-take n s) in f i l (sym (get_or-take n s i 0 l) ∙ e)

-- A text that holds b is not free of it.
pub free-not : (b : ℕ) (s t rest : List ℕ) → Free b s → s ≡ t ++ b ∷ rest → ⊥
free-not b s t rest f e =
    f (length t) (omega (arith, ap length e ∙ length-append t (b ∷ rest))) (ap (λ (u : List ℕ). get_or u (length t) 0) e ∙ get_or_at t b rest 0 (length t) refl)

-- A text with b at n, cut there.
pub cut_at : (b : ℕ) (s : List ℕ) (n : ℕ) → n < length s → get_or s n 0 ≡ b → s ≡ take n s ++ b ∷ drop (n + 1) s
cut_at b s n l e = let d = drop_more s n 0 l in let t = sym (take-append-drop n s) in cc

-- A text can be cut at the first b in one way only.
pub cut-one : (b : ℕ) (s t x y : List ℕ) → Free b s → Free b t → s ++ b ∷ x ≡ t ++ b ∷ y → (s ≡ t) × (x ≡ y)
cut-one b [] [] x y f g e = (refl, cc)
cut-one b [] (c ∷ t) x y f g e = absurd (g zero (omega arith) (cc))
cut-one b (c ∷ s) [] x y f g e = absurd (f zero (omega arith) (cc))
cut-one b (c ∷ s) (d ∷ t) x y f g e =
    let h : s ++ b ∷ x ≡ t ++ b ∷ y = cc in
    let r = cut-one b s t x y (free-tail b c s f) (free-tail b d t g) h in
    let k : c ≡ d = cc in
    (cc, r.1)
