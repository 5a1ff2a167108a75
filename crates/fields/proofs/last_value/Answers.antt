use Rattle.std.proofs.Common.{length, ap, arith}
use Rattle.std.proofs.lemmas.Bool.Decides.{nat_tests}
use Rattle.fields.proofs.Apart.{field-one}
use Rattle.fields.proofs.last_value.Goals as goal

pub returns-then-not-is_empty : goal.returns-then-not-is_empty
returns-then-not-is_empty c =
    let f = c.in_ok-field.ensures in
    λ v e h.
    let one = field-one c.args.key.now c.args.part.bytes.now c.in_ok-field.field.value.now v 10 c.in_ok-field.rest.bytes.now _ f.2 h f.0 e in
    grind (arith, nat_tests, ap length one.1)
