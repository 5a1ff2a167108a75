use Rattle.fresh.specs.Windows.{empty_state}
use Rattle.heap.specs.View.{machine}
use Rattle.sheet.specs.Sheet.{Still, sheet_windows}
use Rattle.sheet.proofs.Run.{sheet-heap, lined-heap}
use Rattle.sheet.proofs.sheet_heap.Goals as goal

pub returns : goal.returns
returns g c = record {
  made = lined-heap (λ h. Still (machine h (g.M.WordMemory.words c.new.new.loan.memory.now)) (empty_state sheet_windows)) c.new.result c.at_line.result c.at_line.ensures
      (sheet-heap (g.M.WordMemory.words c.args.loan.now.memory.now) (g.M.WordMemory.words c.new.new.loan.memory.now) c.new.result c.requires.0 (rw (c.requires.1.0, c.requires.1.1) at c.new.ensures.makes) c.new.ensures.empty);
  lent = c.new.ensures.lent;
}
