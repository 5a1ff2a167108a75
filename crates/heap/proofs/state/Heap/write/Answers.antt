use Rattle.std.proofs.Common.{length, refl}
use Rattle.store.proofs.Laid.{ordered}
use Rattle.laws.proofs.Calls.{write-promised}
use Rattle.heap.proofs.state.Heap.write.Goals as goal

pub returns : goal.returns
returns g c = record {
  promised = rw (← c.stack_lengths-stacks.ensures.0, ← c.stack_lengths-stacks.ensures.1) (write-promised c.stack_lengths-stacks.result.control c.stack_lengths-stacks.result.bindings c.args.into c.args.at c.args.value _ _ _ _ _ (ordered c.args.self.now.store) (c.write-r.ensures.does _) (c.note.ensures.noted _) c.note.ensures.same);
  lent = record { memory = refl; lender = c.write-r.ensures.lender; control = refl; bindings = refl };
}
