use Rattle.std.proofs.Common.{length, refl}
use Rattle.laws.proofs.Calls.{space-promised}
use Rattle.heap.proofs.state.Heap.set_space.Goals as goal

pub returns : goal.returns
returns g c = record {
  promised = space-promised (length c.args.loan.now.control.now) (length c.args.loan.now.bindings.now) c.args.space _ _ _ _ _ c.change_space-r.ensures (c.note.ensures.noted _) c.note.ensures.same;
  lent = record { memory = refl; lender = refl; control = refl; bindings = refl };
}
