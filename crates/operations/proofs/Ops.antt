-- What holds of every operation.

use Rattle.std.proofs.Common.{ℕ, ◌<◌, get_or, arith}
use Rattle.operations.specs.Laws.{ops}
use Rattle.operations.specs.declared.Op.{Op}
use Rattle.operations.specs.declared.Op.TheVariants.{Put, List, Symbol, Vector, String, Words, Read, Write}

-- What holds of each entry of the table holds of every operation.
pub every : (P : Op → Type 0) → ((k : ℕ) → k < 8 → P (get_or ops k Put)) → (o : Op) → P o
every P h Put = h 0 (omega arith)
every P h List = h 1 (omega arith)
every P h Symbol = h 2 (omega arith)
every P h Vector = h 3 (omega arith)
every P h String = h 4 (omega arith)
every P h Words = h 5 (omega arith)
every P h Read = h 6 (omega arith)
every P h Write = h 7 (omega arith)
