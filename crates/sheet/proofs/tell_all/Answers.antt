-- One register more is told in each turn.
use Rattle.std.proofs.Common.{◌∙◌, arith}
use Rattle.std.proofs.lemmas.List.{length-set}
use Rattle.graph.specs.Calls.{register, told}
use Rattle.loan.proofs.Again.{given-back-again}
use Rattle.sheet.proofs.Run.{unstacked-kept}
use Rattle.sheet.proofs.Telling.{told-all, told_more}
use Rattle.sheet.proofs.tell_all.Goals as goal

pub told-requires : goal.told-requires
told-requires g c =
    (omega arith, unstacked-kept g.M.WordMemory.lender _ _ c.loop-r.invariant.1 c.requires.0, (c.requires.1.0, (c.loop-r.invariant.2 c.requires.1.0 c.requires.1.1).0))

pub loop-r-preserved : goal.loop-r-preserved
loop-r-preserved g c = (
  length-set c.loop-r.all c.loop-r.r c.told.result ∙ c.loop-r.invariant.0,
  given-back-again g.M.WordMemory.lender _ _ _ c.loop-r.invariant.1 c.told.ensures.lent,
  λ s st.
      let h = c.loop-r.invariant.2 s st in
      let z = c.told.ensures.told s h.0 in
      (z.1, told_more c.loop-r.all c.loop-r.r c.told.result (λ i. told s (register s i)) (omega (arith, c.loop-r.invariant.0)) h.1 z.0),
)

pub returns : goal.returns
returns g c = λ s st. let h = c.loop-r.invariant.2 s st in told-all c.loop-r.all s c.loop-r.invariant.0 h.0.0.shows.1.lawful.registers_long (λ i l. h.1 i (omega arith))
