-- What the spellings of numbers, of signed numbers and of values keep.

use Rattle.std.proofs.Common.{◌≡◌, zero, suc, get_or, drop, decimal, refl, ap, arith, List, ℕ}
use Rattle.std.specs.Fmt.{signed_decimal}
use Rattle.numerals.specs.Numbers.{Small, SmallSigned, Graphic}
use Rattle.numerals.proofs.Decimals.{decimal-graphic, signed-graphic, decimal-one, signed-one}
use Rattle.words.specs.declared.literals.Literal.{Literal}
use Rattle.words.specs.declared.literals.Literal.TheVariants.{Fixnum, Character, Null}
use Rattle.literals.specs.Literals.{literal_text, SmallLiteral}
use Rattle.literals.specs.Spelling.{SpellingLaws}

-- Neither a space nor byte 10 stands in a value.
pub literal-graphic : (v : Literal) → SmallLiteral v → Graphic (literal_text v)
literal-graphic (Fixnum z) h zero l = omega arith
literal-graphic (Fixnum z) h (suc i) l = signed-graphic z h i (omega arith)
literal-graphic (Character n) h zero l = omega arith
literal-graphic (Character n) h (suc i) l = decimal-graphic n h i (omega arith)
literal-graphic Null h zero l = omega arith
literal-graphic Null h (suc i) l = omega arith

pub literal-one : (v w : Literal) → SmallLiteral v → SmallLiteral w → literal_text v ≡ literal_text w → v ≡ w
literal-one (Fixnum y) (Fixnum z) h k e = let t : signed_decimal y ≡ signed_decimal z = ap (drop 1) e in ap Fixnum (signed-one y z h k t)
literal-one (Fixnum y) (Character n) h k e = let z : ⊥ = omega (arith, ap (λ (u : List ℕ). get_or u 0 0) e) in absurd z
literal-one (Fixnum y) Null h k e = let z : ⊥ = omega (arith, ap (λ (u : List ℕ). get_or u 0 0) e) in absurd z
literal-one (Character m) (Fixnum z) h k e = let z : ⊥ = omega (arith, ap (λ (u : List ℕ). get_or u 0 0) e) in absurd z
literal-one (Character m) (Character n) h k e = let t : decimal m ≡ decimal n = ap (drop 1) e in ap Character (decimal-one m n h k t)
literal-one (Character m) Null h k e = let z : ⊥ = omega (arith, ap (λ (u : List ℕ). get_or u 0 0) e) in absurd z
literal-one Null (Fixnum z) h k e = let z : ⊥ = omega (arith, ap (λ (u : List ℕ). get_or u 0 0) e) in absurd z
literal-one Null (Character n) h k e = let z : ⊥ = omega (arith, ap (λ (u : List ℕ). get_or u 0 0) e) in absurd z
literal-one Null Null h k e = refl

pub number_laws : SpellingLaws decimal Small
number_laws = record { graphic = decimal-graphic; one = decimal-one }

pub signed_laws : SpellingLaws signed_decimal SmallSigned
signed_laws = record { graphic = signed-graphic; one = signed-one }

pub literal_laws : SpellingLaws literal_text SmallLiteral
literal_laws = record { graphic = literal-graphic; one = literal-one }
