-- What is printed of the registers, and of a refused text.

use Rattle.std.specs.Prelude.{ℕ, ◌+◌, List, [], ◌∷◌, ◌++◌, codes, decimal}
use Rattle.words.specs.declared.literals.Literal.TheVariants.{Fixnum as FixnumLiteral, Character as CharacterLiteral, Null as NullLiteral}
use Rattle.lines.specs.Lines.{newline}
use Rattle.literals.specs.Literals.{literal_text}
use Rattle.answers.specs.Numbers.{number_of}
use Rattle.answers.specs.declared.TextFault.{TextFault}
use Rattle.answers.specs.declared.Told.{Told}
use Rattle.answers.specs.declared.Told.TheVariants.{Fixnum, Character, Null, Object}

-- The text of what a register holds: a value as a part text writes it, an object by its type code.
abbrev pub told_text : Told → List ℕ
told_text (Fixnum z) = literal_text (FixnumLiteral z)
told_text (Character c) = literal_text (CharacterLiteral c)
told_text Null = literal_text NullLiteral
told_text (Object code space cells) = codes "o" ++ decimal code

-- The line that names a register by its number, and what it holds by its text.
abbrev pub value_line : ℕ → List ℕ → List ℕ
value_line r text = codes "reg=" ++ (decimal r ++ (codes " value=" ++ (text ++ (newline ∷ []))))

-- The line of a register that holds this; a register that holds null has none.
abbrev pub register_line : ℕ → Told → List ℕ
register_line r (Fixnum z) = value_line r (told_text (Fixnum z))
register_line r (Character c) = value_line r (told_text (Character c))
register_line r Null = []
register_line r (Object code space cells) = value_line r (told_text (Object code space cells))

-- The lines of the registers that hold these, the first of them register r.
abbrev pub listing_from : ℕ → List Told → List ℕ
listing_from r [] = []
listing_from r (t ∷ ts) = register_line r t ++ listing_from (r + 1) ts

-- The lines of all registers, rising.
abbrev pub listing : List Told → List ℕ
listing ts = listing_from 0 ts

-- The line that names a refused line of a text, and the refusal by its number.
abbrev pub fault_text : TextFault → List ℕ
fault_text fault = codes "line=" ++ (decimal fault.line ++ (codes " refusal=" ++ (decimal (number_of fault.refusal) ++ (newline ∷ []))))
