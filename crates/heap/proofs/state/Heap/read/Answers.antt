use Rattle.std.proofs.Common.{refl}
use Rattle.laws.proofs.Views.{view-clean}
use Rattle.laws.proofs.Calls.{read-promised}
use Rattle.heap.proofs.state.Heap.read.Goals as goal

pub returns : goal.returns
returns g c = record {
  promised = rw (← c.stack_lengths-stacks.ensures.0, ← c.stack_lengths-stacks.ensures.1) (read-promised c.stack_lengths-stacks.result.control c.stack_lengths-stacks.result.bindings c.args.to c.args.from c.args.at _ _ _ _ _ (view-clean c.args.self.now.store) (c.read-r.ensures.does _) (c.note.ensures.noted _) c.note.ensures.same);
  lent = record { memory = refl; lender = refl; control = refl; bindings = refl };
}
