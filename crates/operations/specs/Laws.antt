-- What the names of the operations keep.

use Rattle.std.proofs.Common.{◌≡◌, ℕ, suc, cond, [], ◌∷◌, true, ltb, get_or, sym, refl, ap, ◌∙◌, arith}
use mathlib.Core.List as lists
use Rattle.std.specs.Str.{bytes_eq}
use Rattle.std.specs.List.{list_all}
use Rattle.std.proofs.lemmas.List.Sums.{AllPass-from_list_all}
use Rattle.std.proofs.lemmas.Bool.Decides.{nat_tests}
use Rattle.numerals.specs.Numbers.{Graphic}
use Rattle.literals.specs.Spelling.{SpellingLaws}
use Rattle.operations.specs.Names.{name_of}
use Rattle.operations.specs.declared.Op.{Op}
use Rattle.operations.specs.declared.Op.TheVariants.{Put, List, Symbol, Vector, String, Words, Read, Write}

-- All operations, in the order of the code's table.
abbrev pub ops : lists.List Op
ops = Put ∷ List ∷ Symbol ∷ Vector ∷ String ∷ Words ∷ Read ∷ Write ∷ []

-- The place of the operation of this name in a table.
abbrev place : lists.List ℕ → lists.List Op → ℕ
place s [] = 0
place s (o ∷ os) = cond (bytes_eq s (name_of o)) 0 (suc (place s os))

place-name : (o : Op) → get_or ops (place (name_of o) ops) Put ≡ o
place-name Put = refl
place-name List = refl
place-name Symbol = refl
place-name Vector = refl
place-name String = refl
place-name Words = refl
place-name Read = refl
place-name Write = refl

-- No two operations have one name.
pub name-one : (o p : Op) → name_of o ≡ name_of p → o ≡ p
name-one o p e = sym (place-name o) ∙ ap (λ (s : lists.List ℕ). get_or ops (place s ops) Put) e ∙ place-name p

-- Each byte of a text is above a space, by a test that computes.
graphic-from-test : (s : lists.List ℕ) → list_all (ltb 32) s ≡ true → Graphic s
graphic-from-test s t i l = grind (arith, nat_tests, AllPass-from_list_all (ltb 32) s t)

-- No name holds a space or ends a line.
pub name_graphic : (o : Op) → Graphic (name_of o)
name_graphic Put = graphic-from-test (name_of Put) refl
name_graphic List = graphic-from-test (name_of List) refl
name_graphic Symbol = graphic-from-test (name_of Symbol) refl
name_graphic Vector = graphic-from-test (name_of Vector) refl
name_graphic String = graphic-from-test (name_of String) refl
name_graphic Words = graphic-from-test (name_of Words) refl
name_graphic Read = graphic-from-test (name_of Read) refl
name_graphic Write = graphic-from-test (name_of Write) refl

pub name_laws : SpellingLaws name_of (λ _. Unit {0})
name_laws = record { graphic = λ o _. name_graphic o; one = λ o p _ _ e. name-one o p e }
