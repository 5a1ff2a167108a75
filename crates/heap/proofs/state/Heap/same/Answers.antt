use Rattle.std.proofs.Common.{refl}
use Rattle.laws.proofs.Calls.{same-promised}
use Rattle.heap.proofs.state.Heap.same.Goals as goal

pub returns : goal.returns
returns g c = record {
  promised = rw (← c.stack_lengths-stacks.ensures.0, ← c.stack_lengths-stacks.ensures.1) (same-promised c.stack_lengths-stacks.result.control c.stack_lengths-stacks.result.bindings c.args.left c.args.right _ _ _ _ _ (c.same-r.ensures.does _) (c.note.ensures.noted _) c.note.ensures.same);
  lent = record { memory = refl; lender = refl; control = refl; bindings = refl };
}
