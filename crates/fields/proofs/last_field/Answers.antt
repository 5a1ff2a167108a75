use Rattle.std.proofs.Common.{[], ap, ◌∙◌, arith}
use Rattle.std.proofs.lemmas.Result.{MatchResult-weaker}
use Rattle.fields.specs.Fields.{field_text}
use Rattle.fields.proofs.Apart.{spelling-free, field-one}
use Rattle.fields.proofs.last_field.Goals as goal

pub returns : goal.returns
returns g c =
    let t = c.in_ok-last_value.ensures in
    let spelled = g.V.Spelled.spelling in
    MatchResult-weaker c.parse.result c.parse.ensures (λ v h. (t.0 ∙ ap (λ s. field_text c.args.key.now s 10 []) h.0, h.1))
    (λ _ none v e h.
    none v (field-one c.args.key.now c.args.part.bytes.now c.in_ok-last_value.field-0.now (spelled v) 10 [] [] t.1 (spelling-free g.met.V.Spelled.laws 10 v (omega arith) h) t.0 e).0 h)
