-- The text of a value, by its letter.

use Rattle.std.proofs.Common.{◌≡◌, ℕ, ◌-◌, ◌<◌, List, ◌∷◌, length, get_or, take, drop, ℤ, decimal, ap, ◌∙◌, arith}
use Rattle.std.specs.Fmt.{signed_decimal}
use Rattle.std.proofs.lemmas.List.{take_rest}
use Rattle.std.proofs.lemmas.Slice.{first_rest}
use Rattle.numerals.specs.Numbers.{Small, SmallSigned}
use Rattle.words.specs.declared.literals.Literal.{Literal}
use Rattle.words.specs.declared.literals.Literal.TheVariants.{Fixnum, Character, Null}
use Rattle.literals.specs.Literals.{literal_text, SmallLiteral}

-- A text whose first byte is given, and the text after it.
pub letter-rest : (s : List ℕ) (b : ℕ) (t : List ℕ) → 0 < length s → get_or s 0 0 ≡ b → take (length s - 1) (drop 1 s) ≡ t → s ≡ b ∷ t
letter-rest s b t h e r = let f = first_rest s 0 h in cc

pub no-fixnum : (s : List ℕ) → get_or s 0 0 ≡ 102 → ((z : ℤ) → take (length s - 1) (drop 1 s) ≡ signed_decimal z → SmallSigned z → ⊥) →
    (v : Literal) → s ≡ literal_text v → SmallLiteral v → ⊥
no-fixnum s h none (Fixnum z) e f = none z (take_rest s 1 ∙ ap (drop 1) e) f
no-fixnum s h none (Character c) e f = omega (arith, ap (λ (u : List ℕ). get_or u 0 0) e)
no-fixnum s h none Null e f = omega (arith, ap (λ (u : List ℕ). get_or u 0 0) e)

pub no-character : (s : List ℕ) → get_or s 0 0 ≡ 99 → ((n : ℕ) → take (length s - 1) (drop 1 s) ≡ decimal n → Small n → ⊥) →
    (v : Literal) → s ≡ literal_text v → SmallLiteral v → ⊥
no-character s h none (Fixnum z) e f = omega (arith, ap (λ (u : List ℕ). get_or u 0 0) e)
no-character s h none (Character c) e f = none c (take_rest s 1 ∙ ap (drop 1) e) f
no-character s h none Null e f = omega (arith, ap (λ (u : List ℕ). get_or u 0 0) e)
