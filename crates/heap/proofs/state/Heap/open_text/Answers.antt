use Rattle.std.proofs.Common.{length}
use Rattle.heap.specs.View.{machine}
use Rattle.opening.proofs.Steps.{view-settled}
use Rattle.opening.proofs.Promises.{text-promised}
use Rattle.heap.proofs.state.Heap.open_text.Goals as goal

pub returns : goal.returns
returns g c = record {
  promised = rw c.note.ensures.same (text-promised (length c.args.loan.now.control.now) (length c.args.loan.now.bindings.now) c.args.space c.args.text.now
      (machine c.args.self.now (g.M.WordMemory.words c.args.loan.now.memory.now)) _ c.run_text-r.result
      (view-settled c.args.self.now.store c.args.self.now.allocation.space (g.M.WordMemory.words c.args.loan.now.memory.now)) c.run_text-r.ensures.runs _ (c.note.ensures.noted _));
  lent = c.run_text-r.ensures.lent;
}
