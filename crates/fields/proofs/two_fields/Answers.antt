use Rattle.std.proofs.lemmas.Result.{MatchResult-from_err}
use Rattle.fields.proofs.Apart.{value-then}
use Rattle.fields.proofs.two_fields.Goals as goal

pub returns-in_err-b : goal.returns-in_err-b
returns-in_err-b g c =
    let a = c.in_ok-a.ensures in
    MatchResult-from_err _ _ _ c.from_residual-in_err-b.ensures.0
    (λ _ x e h.
    value-then g.met.A.Spelled.laws _ _ c.args.first.now c.args.part.bytes.now c.in_ok-a.last.bytes.now c.in_ok-a.a a.0 a.1
    c.in_err-b.ensures x.0 x.1 e h.0 h.1)
