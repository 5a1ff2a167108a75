-- How the values of a part text are written.

use Rattle.std.specs.Prelude.{ℕ, List, ◌++◌, codes, decimal}
use Rattle.std.specs.Fmt.{signed_decimal}
use Rattle.numerals.specs.Numbers.{Small, SmallSigned}
use Rattle.words.specs.declared.literals.Literal.{Literal}
use Rattle.words.specs.declared.literals.Literal.TheVariants.{Fixnum, Character, Null}

-- The text of a value.
abbrev pub literal_text : Literal → List ℕ
literal_text (Fixnum z) = codes "f" ++ signed_decimal z
literal_text (Character c) = codes "c" ++ decimal c
literal_text Null = codes "n"

-- The number in a value, if any, has at most nine digits.
abbrev pub SmallLiteral : Literal → Type 0
SmallLiteral (Fixnum z) = SmallSigned z
SmallLiteral (Character c) = Small c
SmallLiteral Null = Unit {0}
