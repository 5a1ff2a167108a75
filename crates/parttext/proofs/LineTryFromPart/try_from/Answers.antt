use Rattle.std.proofs.Common.{codes, sym, arith}
use Rattle.std.proofs.lemmas.Result.{MatchResult-from_err, MatchResult-weaker}
use Rattle.fields.proofs.Apart.{value-one}
use Rattle.operations.specs.Laws.{name_laws}
use Rattle.parttext.specs.Grammar.{form_of, fields_text, line_text}
use Rattle.parttext.proofs.LineTryFromPart.try_from.Goals as goal

pub returns-in_err-op : goal.returns-in_err-op
unfolding line_text
returns-in_err-op c =
    MatchResult-from_err _ _ _ c.from_residual.ensures.0 (λ _ l e _. c.in_err-op.ensures (form_of l).0 (fields_text (form_of l).1) e tt)

pub returns : goal.returns
unfolding line_text
returns c =
    let f = c.in_ok-op.ensures in
    MatchResult-weaker c.call_of.result c.call_of.ensures (λ l h. let t = h.0 in let o = h.1.0 in let g = f.0 in (cc, h.1.1))
    (λ _ none l e h.
    let one = value-one name_laws (codes "op") c.args.line.bytes.now c.in_ok-op.op (form_of l).0 32 c.in_ok-op.rest.bytes.now (fields_text (form_of l).1) (omega arith) tt tt f.0 e in
    none l one.1 (sym one.0, h))
