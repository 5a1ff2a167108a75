use Rattle.std.proofs.Common.{length, refl}
use Rattle.store.proofs.Laid.{ordered}
use Rattle.laws.proofs.Calls.{symbol-promised}
use Rattle.laws.proofs.Views.{code-small}
use Rattle.heap.proofs.state.Heap.symbol.Goals as goal

pub returns : goal.returns
returns g c = record {
  promised = rw (← c.stack_lengths-stacks.ensures.0, ← c.stack_lengths-stacks.ensures.1) (symbol-promised c.stack_lengths-stacks.result.control c.stack_lengths-stacks.result.bindings c.args.to c.args.name _ _ _ _ _ (ordered c.args.self.now.store) c.args.self.now.store.which
      (code-small c.args.self.now.allocation.space) c.make_symbol-r.ensures.makes (c.note.ensures.noted _) c.note.ensures.same);
  lent = record { memory = refl; lender = c.make_symbol-r.ensures.lender; control = refl; bindings = refl };
}
