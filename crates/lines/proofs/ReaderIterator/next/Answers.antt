use Rattle.std.proofs.Common.{◌≡◌, ◌<◌, eqb, sym, refl, ap, ◌∙◌, length, rules, tests, arith}
use Rattle.std.proofs.lemmas.Fn.{always_returns_same}
use Rattle.std.proofs.lemmas.List.{nil_from_length}
use Rattle.lines.specs.Lines.{lines_of}
use Rattle.lines.proofs.Pieces.{lines-first, lines-nil}
use Rattle.lines.proofs.ReaderIterator.next.Goals as goal

pub returns-in_err-bytes-clause-steps : goal.returns-in_err-bytes-clause-steps
returns-in_err-bytes-clause-steps c =
    let n : length c.args.self.now.rest.now ≡ 0 = ap length (sym c.split_inclusive.ensures.rest) ∙ c.in_err-bytes.ensures.steps.0 in
    rw c.from_residual.ensures (ap lines_of (nil_from_length _ n) ∙ lines-nil, refl)

pub returns-clause-steps : goal.returns-clause-steps
returns-clause-steps c =
    let h = c.in_ok-bytes.ensures.steps in
    let f = h.1.2 (λ b. eqb b 10) (always_returns_same _ _ _ (λ a r q k. search (rules, tests))) in
    let l : 0 < length c.in_ok-bytes.bytes.now = omega (arith, c.in_ok-bytes.ensures.goes.on tt) in
    (rw c.split_inclusive.ensures.rest at (lines-first c.split_inclusive.result.rest.now c.in_ok-bytes.bytes.now c.next.new.self.rest.now h.1.0 h.0 h.1.1 l f.1), refl, refl)

pub returns-clause-goes : goal.returns-clause-goes
returns-clause-goes c = record { on = λ _. (tt, tt, omega (arith, ap length (returns-clause-steps c).0)); keeps = tt; rests = λ _. tt }
