-- The names of the operations.

use Rattle.std.specs.Prelude.{ℕ, codes}
use mathlib.Core.List as lists
use Rattle.operations.specs.declared.Op.{Op}
use Rattle.operations.specs.declared.Op.TheVariants.{Put, List, Symbol, Vector, String, Words, Read, Write}

-- The name of an operation, as the field `op` has it.
abbrev pub name_of : Op → lists.List ℕ
name_of Put = codes "put"
name_of List = codes "list"
name_of Symbol = codes "symbol"
name_of Vector = codes "vector"
name_of String = codes "string"
name_of Words = codes "words"
name_of Read = codes "read"
name_of Write = codes "write"
