-- The worked figures are those computed in Figures.
use Rattle.figures.proofs.Figures.{figures}
use Rattle.figures.proofs.figures_hold.Goals as goal

pub returns : goal.returns
returns c = figures
