-- Once the whole block fits, neither part is refused.
use Rattle.std.proofs.Common.{◌≡◌, ◌+◌, true, false, leb, length, refl, ap, ◌∙◌, arith, leb-true}
use Rattle.memory.proofs.Pasting.{length-pasted}
use Rattle.making.proofs.Emplaced.{emplaced-short, emplaced-both}
use Rattle.making.proofs.emplace.Goals as goal

pub returns-then-not-fits : goal.returns-then-not-fits
returns-then-not-fits g c =
    let e : leb (c.args.at + (length c.args.object.now.head.now + c.args.object.now.rest)) (length (g.M.WordMemory.words c.args.memory.now)) ≡ false = cc in
    record { emplaces = emplaced-short _ _ _ _ _ e; lender = refl }

pub returns-in_err-paste : goal.returns-in_err-paste
returns-in_err-paste g c =
    let e : leb (c.args.at + (length c.args.object.now.head.now + c.args.object.now.rest)) (length (g.M.WordMemory.words c.args.memory.now)) ≡ true = cc in
    let z : ⊥ = omega (arith, leb-true _ _ e, c.in_err-paste.ensures.after.0) in absurd z

pub returns-in_err-fill : goal.returns-in_err-fill
returns-in_err-fill g c =
    let e : leb (c.args.at + (length c.args.object.now.head.now + c.args.object.now.rest)) (length (g.M.WordMemory.words c.args.memory.now)) ≡ true = cc in
    let n = ap length c.in_ok-paste.ensures.after.1 ∙ length-pasted (g.M.WordMemory.words c.args.memory.now) c.args.at c.args.object.now.head.now in
    let z : ⊥ = omega (arith, leb-true _ _ e, n, c.in_err-fill.ensures.after.0) in absurd z

pub returns : goal.returns
returns g c =
    let e : leb (c.args.at + (length c.args.object.now.head.now + c.args.object.now.rest)) (length (g.M.WordMemory.words c.args.memory.now)) ≡ true = cc in
    record {
      emplaces = emplaced-both _ _ _ _ _ _ _ e c.in_ok-paste.ensures.after.1 c.in_ok-fill.ensures.after.1;
      lender = c.in_ok-fill.ensures.lender ∙ c.in_ok-paste.ensures.lender;
    }
