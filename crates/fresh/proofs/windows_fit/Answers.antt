use Rattle.std.proofs.Common.{◌≡◌, true, false, rules}
use Rattle.std.proofs.lemmas.Iterator.{YieldsList-from_slice, cases_from_all}
use borrow.Author.Tests.{tests}
use Rattle.fresh.specs.Windows.{narrow}
use Rattle.fresh.proofs.Rooms.{fit-cases}
use Rattle.fresh.proofs.windows_fit.Goals as goal

pub returns : goal.returns
returns c =
    fit-cases c.args.windows c.all.result
    (cases_from_all _ _ _ (λ w. narrow w ≡ true) (λ w. narrow w ≡ false) c.all.ensures.ran (YieldsList-from_slice c.args.windows cc) (λ x q k. search (rules, tests)) (λ x q k. search (rules, tests)))
