-- A heap and its memory as a machine.
use Rattle.std.specs.Prelude.{ℕ, Bool, List, length, Some, None, Option, Ok, Err, Result}
use Rattle.answers.specs.declared.Refusal.{Refusal}
use Rattle.answers.specs.declared.Refusal.TheVariants.{Unknown}
use Rattle.spaces.specs.declared.Space.{Space}
use Rattle.graph.specs.Calls.{Call}
use Rattle.std.specs.Borrow.{GName}
use Rattle.loan.specs.Lent.{GivenBack}
use Rattle.loan.specs.declared.Loan.{Loan}
use Rattle.promises.specs.Promise.{short, Promised}
use Rattle.layout.specs.Machine.{Machine}
use Rattle.spaces.specs.Spaces.{code_of}
use Rattle.store.specs.View.{view}
use Rattle.heap.specs.declared.state.Heap.{Heap}

-- The machine that a heap is with these words of memory.
abbrev pub machine : Heap → List ℕ → Machine
machine h ws = view h.store (code_of h.allocation.space) ws

-- The space that an admitted call names.
abbrev pub admitted_space : Result (Unit {0}) Refusal → Option Space → Result Space Refusal
admitted_space (Ok u) (Some s) = Ok s
admitted_space (Ok u) None = Err Unknown
admitted_space (Err e) o = Err e

-- What a call does that found the heap h and was lent l, and left h' and l' and answered r: what it promises, and that it gave back what it
-- was lent. `call` takes whether the loan is short, and `step` the lengths of the stacks.
pub record Performs {M A : Type 0} (words : M → List ℕ) (lender_of : M → GName) (call : Bool → Call A) (step : ℕ → ℕ → Machine → Machine × Result A Refusal) (h : Heap) (l : Loan M) (h' : Heap) (l' : Loan M) (r : Result A Refusal) : Type 0 where
  pub promised :
      Promised (call (short (machine h (words l.memory.now)) (length l.control.now) (length l.bindings.now))) (step (length l.control.now) (length l.bindings.now)) (machine h (words l.memory.now)) (machine h' (words l'.memory.now)) r
  pub lent : GivenBack lender_of l l'

-- A heap that was made, as a machine with these words, or the refusal.
abbrev pub shown_by : List ℕ → Result Heap Refusal → Result Machine Refusal
shown_by ws (Ok h) = Ok (machine h ws)
shown_by ws (Err e) = Err e
