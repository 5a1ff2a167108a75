use Rattle.std.proofs.lemmas.Slice.Eq.{strip_prefix_is}
use Rattle.std.proofs.lemmas.Bool.Decides.{Decides-eqb}
use Rattle.fields.proofs.Apart.{MatchResult-from_option}
use Rattle.fields.proofs.after.Goals as goal

pub returns : goal.returns
returns c =
    rw c.ok_or.ensures.value
    (MatchResult-from_option c.strip_prefix.result _ _ _ (strip_prefix_is Decides-eqb c.args.text.now c.args.front.now c.strip_prefix.result c.strip_prefix.ensures.cases))
