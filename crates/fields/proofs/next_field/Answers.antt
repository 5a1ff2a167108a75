use Rattle.std.proofs.Common.{arith}
use Rattle.std.proofs.lemmas.Result.{MatchResult-from_err}
use Rattle.fields.proofs.Apart.{spelling-free, field-one}
use Rattle.fields.proofs.next_field.Goals as goal

pub returns-in_err-parse : goal.returns-in_err-parse
returns-in_err-parse g c =
    let f = c.in_ok-field.ensures in
    let laws = g.met.V.Spelled.laws in
    MatchResult-from_err _ _ _ c.from_residual-in_err-parse.ensures.0
    (λ _ v rest e h.
    c.in_err-parse.ensures v
    (field-one c.args.key.now c.args.part.bytes.now c.in_ok-field.field.value.now (g.V.Spelled.spelling v) 32 c.in_ok-field.rest.bytes.now rest f.2 (spelling-free laws 32 v (omega arith) h) f.0 e).0 h)
