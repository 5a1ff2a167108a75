use Rattle.std.proofs.Common.{◌≡◌, ℕ, suc, length, Result}
use Rattle.answers.specs.declared.TextFault.{TextFault}
use Rattle.layout.specs.Machine.{Machine}
use Rattle.spaces.specs.Spaces.{code_of}
use Rattle.store.specs.View.{view}
use Rattle.lines.specs.Lines.{lines_of, unread}
use Rattle.opening.specs.Opening.{Runs}
use Rattle.opening.proofs.run_lines.Given as goal

-- What the lines left answer from here, the whole text answers.
abbrev pub invariant-loop-line : goal.invariant-loop-line
invariant-loop-line g l =
    (g.M.WordMemory.lender l.memory ≡ g.M.WordMemory.lender l.initial.memory)
    × ((m' : Machine) (r : Result ℕ TextFault) →
    Runs l.stacks.control l.stacks.bindings (view l.store (code_of l.space) (g.M.WordMemory.words l.memory)) (suc l.line-iterator.line) l.total (lines_of (unread l.line-iterator)) m' r →
    Runs l.stacks.control l.stacks.bindings (view l.initial.store (code_of l.space) (g.M.WordMemory.words l.initial.memory)) 1 0 (lines_of l.text) m' r)
