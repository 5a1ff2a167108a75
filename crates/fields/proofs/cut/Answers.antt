use Rattle.std.proofs.Common.{arith}
use Rattle.lines.proofs.Cuts.{free-not}
use Rattle.fields.proofs.cut.Goals as goal

pub returns-in_default : goal.returns-in_default
returns-in_default c =
    λ v rest e. free-not c.args.end c.args.text.now v rest (λ i h. c.up_to.ensures.before i (omega arith)) e
