-- The worked figures are those computed in Figures.
use Rattle.words.proofs.Figures.{figures}
use Rattle.words.proofs.figures_hold.Goals as goal

pub returns : goal.returns
returns c = figures
