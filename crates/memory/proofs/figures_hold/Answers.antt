-- The worked figures are those shown in Placed.
use Rattle.memory.proofs.Placed.{placed}
use Rattle.memory.proofs.figures_hold.Goals as goal

pub returns : goal.returns
returns c = placed
