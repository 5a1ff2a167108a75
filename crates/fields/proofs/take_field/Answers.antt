use Rattle.std.proofs.Common.{sym, ◌∙◌}
use Rattle.std.proofs.lemmas.List.{append_cancel_left}
use Rattle.std.proofs.lemmas.Result.{MatchResult-from_err}
use Rattle.fields.proofs.take_field.Goals as goal

pub returns-in_err-rest-2 : goal.returns-in_err-rest-2
returns-in_err-rest-2 c =
    let k = c.in_ok-rest.ensures in
    MatchResult-from_err _ _ _ c.from_residual-in_err-rest-2.ensures.0 (λ _ v rest e. c.in_err-rest-2.ensures _ (append_cancel_left c.args.key.now _ _ (sym k ∙ e)))

pub returns-in_err-value : goal.returns-in_err-value
returns-in_err-value c =
    let k = c.in_ok-rest.ensures in
    let q = c.in_ok-rest-2.ensures in
    MatchResult-from_err _ _ _ c.from_residual-in_err-value.ensures.0
    (λ _ v rest e.
    let t = append_cancel_left c.args.key.now _ _ (sym k ∙ e) in
    c.in_err-value.ensures v rest (cc))
