use Rattle.std.proofs.Common.{refl}
use Rattle.laws.proofs.Calls.{freeze-promised}
use Rattle.heap.proofs.state.Heap.freeze.Goals as goal

pub returns : goal.returns
returns g c = record {
  promised = rw (← c.stack_lengths-stacks.ensures.0, ← c.stack_lengths-stacks.ensures.1) (freeze-promised c.stack_lengths-stacks.result.control c.stack_lengths-stacks.result.bindings _ _ _ _ _ (c.freeze-r.ensures.does _) (c.note.ensures.noted _) c.note.ensures.same);
  lent = record { memory = refl; lender = refl; control = refl; bindings = refl };
}
