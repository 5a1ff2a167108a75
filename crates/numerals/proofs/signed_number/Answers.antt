use Rattle.std.proofs.Common.{arith, suc, sym, ◌∙◌}
use Rattle.std.proofs.lemmas.Fmt.{decimal_injective}
use Rattle.std.proofs.lemmas.Result.{MatchResult-from_err}
use Rattle.numerals.proofs.Decimals.{signed-minus}
use Rattle.numerals.proofs.signed_number.Goals as goal

pub returns-in_err-n-in-45 : goal.returns-in_err-n-in-45
returns-in_err-n-in-45 c =
    MatchResult-from_err _ _ _ c.from_residual.ensures.0 (λ _ x e h. let m = signed-minus c.args.text.now x e h (omega arith) in c.in_err-n-in-45.ensures (suc m.0) m.2 m.3)

pub returns-in-0 : goal.returns-in-0
returns-in-0 c =
    λ x e h.
    let m = signed-minus c.args.text.now x e h (omega arith) in
    let n = c.in_ok-n-in-45.ensures in
    omega (arith, decimal_injective c.in_ok-n-in-45.n (suc m.0) (omega arith) (omega arith) (sym n.0 ∙ m.2))
