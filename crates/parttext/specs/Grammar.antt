-- The grammar of a part text: the text of each call.

use Rattle.std.specs.Prelude.{◌≡◌, ℕ, List, [], ◌∷◌, map, codes, decimal}
use Prim.Native.String.{String}
use Rattle.std.specs.List.{AllByRecursion}
use Rattle.fields.specs.Fields.{field_text, space, spaced}
use Rattle.numerals.specs.Numbers.{Small}
use Rattle.words.specs.declared.literals.Literal.{Literal}
use Rattle.literals.specs.Literals.{literal_text, SmallLiteral}
use Rattle.operations.specs.Names.{name_of}
use Rattle.parttext.specs.declared.Line.{Line}
use Rattle.parttext.specs.declared.Line.TheVariants as line
use Rattle.operations.specs.declared.Op.{Op}
use Rattle.operations.specs.declared.Op.TheVariants as op

-- What stands in a field after `op`: a number, or a value of the store.
pub data Value : Type 0 where
  number : ℕ → Value
  literal : Literal → Value

-- The text of a field's value.
abbrev pub value_text : Value → List ℕ
value_text (number n) = decimal n
value_text (literal v) = literal_text v

-- Its number, if any, has at most nine digits.
abbrev pub SmallValue : Value → Type 0
SmallValue (number n) = Small n
SmallValue (literal v) = SmallLiteral v

-- The operation of a line, and the fields that follow it.
abbrev pub form_of : Line → Op × List (String × Value)
form_of (line.Put to value) = (op.Put, ("to", number to) ∷ ("value", literal value) ∷ [])
form_of (line.List to car cdr) = (op.List, ("to", number to) ∷ ("car", number car) ∷ ("cdr", number cdr) ∷ [])
form_of (line.Symbol to name) = (op.Symbol, ("to", number to) ∷ ("name", number name) ∷ [])
form_of (line.Vector to count fill) = (op.Vector, ("to", number to) ∷ ("count", number count) ∷ ("fill", number fill) ∷ [])
form_of (line.String to count) = (op.String, ("to", number to) ∷ ("count", number count) ∷ [])
form_of (line.Words to count access) = (op.Words, ("to", number to) ∷ ("count", number count) ∷ ("access", number access) ∷ [])
form_of (line.Read to from at) = (op.Read, ("to", number to) ∷ ("from", number from) ∷ ("at", number at) ∷ [])
form_of (line.Write into at value) = (op.Write, ("into", number into) ∷ ("at", number at) ∷ ("value", number value) ∷ [])

-- The text of the fields that follow `op`, up to the newline that ends the line.
abbrev pub fields_text : List (String × Value) → List ℕ
fields_text fs = spaced (map (λ f. (codes f.0, value_text f.1)) fs)

-- The text of a line: `op=` and the name of its operation, a space, and the other fields.
unfoldable pub line_text : Line → List ℕ
line_text c = field_text (codes "op") (name_of (form_of c).0) space (fields_text (form_of c).1)

-- Every number of the line has at most nine digits.
abbrev pub SmallLine : Line → Type 0
SmallLine c = AllByRecursion (λ f. SmallValue f.1) (form_of c).1

-- These bytes are the text of the line, and it has no number of more than nine digits.
abbrev pub Spells : Line → List ℕ → Type 0
Spells c s = (s ≡ line_text c) × SmallLine c
