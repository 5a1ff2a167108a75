use Rattle.std.proofs.Common.{◌∙◌, ap, sym, arith}
use Rattle.store.specs.Windows.{holds}
use Rattle.store.proofs.Laid.{count-windows, in-use-of, in-use-past}
use Rattle.store.proofs.state.Store.in_use.Goals as goal

pub returns-in-Some : goal.returns-in-Some
returns-in-Some c =
    let s = c.args.self.now in
    let found = c.in-Some.ensures.lookup in
    c.holds.ensures ∙ ap (λ w. holds w c.args.offset c.args.size) found.1
    ∙ sym (in-use-of s c.args.window c.in-Some.w.now (omega (arith, found.3.0, count-windows s)) c.args.offset c.args.size)

pub returns-in-None : goal.returns-in-None
returns-in-None c =
    let s = c.args.self.now in
    sym (in-use-past s c.args.window c.args.offset c.args.size (omega (arith, c.in-None.ensures.lookup.3, count-windows s)))
