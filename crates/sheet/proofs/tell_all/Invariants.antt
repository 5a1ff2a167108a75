use Rattle.std.proofs.Common.{◌≡◌, ℕ, ◌<◌, length, get_or}
use Rattle.answers.specs.declared.Told.TheVariants.{Null}
use Rattle.graph.specs.Calls.{State, register, told}
use Rattle.loan.specs.Lent.{GivenBack}
use Rattle.heap.specs.View.{machine}
use Rattle.sheet.specs.Sheet.{Still}
use Rattle.sheet.proofs.tell_all.Given as goal

-- The registers below r are told as they are, and nothing has changed.
abbrev pub invariant-loop-r : goal.invariant-loop-r
invariant-loop-r g l =
    (length l.all ≡ 16) × GivenBack g.M.WordMemory.lender l.initial.loan l.loan × ((s : State) → Still (machine l.initial.heap (g.M.WordMemory.words l.initial.loan.memory.now)) s →
    Still (machine l.heap (g.M.WordMemory.words l.loan.memory.now)) s × ((i : ℕ) → i < l.r → get_or l.all i Null ≡ told s (register s i)))
