use Rattle.std.proofs.Common.{sym, refl, arith, rules}
use Rattle.fresh.proofs.Makes.{makes-wide, makes-refused, clears, makes-store}
use Rattle.fresh.proofs.make_store.Goals as goal

pub returns-then-not-windows_fit : goal.returns-then-not-windows_fit
returns-then-not-windows_fit g c = record { makes = makes-wide _ _ _ _ (sym c.if-not-windows_fit.ensures); empty = tt; lender = refl }

pub returns-in_err-admit : goal.returns-in_err-admit
returns-in_err-admit g c =
    let made =
    makes-refused c.args.windows (omega arith) c.empty_store-store.result c.empty_store-store.ensures (sym c.if-not-windows_fit.ensures)
    c.args.stacks.control c.args.stacks.bindings (g.M.WordMemory.words c.args.memory.now) c.in_err-admit.field-0.0
    c.in_err-admit.ensures.admits in
    record { makes = search rules; empty = search rules; lender = refl }

pub returns-in_err-fill : goal.returns-in_err-fill
returns-in_err-fill g c =
    absurd (
    clears c.args.windows (omega arith) c.empty_store-store.result c.empty_store-store.ensures (sym c.if-not-windows_fit.ensures)
    c.args.stacks.control c.args.stacks.bindings (g.M.WordMemory.words c.args.memory.now) tt c.in_ok-admit.ensures.admits
    (rw c.end.ensures at c.in_err-fill.ensures.after.0)
    )

pub returns : goal.returns
returns g c =
    let made =
    makes-store c.args.windows (omega arith) c.empty_store-store.result c.empty_store-store.ensures (sym c.if-not-windows_fit.ensures)
    c.args.stacks.control c.args.stacks.bindings (g.M.WordMemory.words c.args.memory.now) tt c.in_ok-admit.ensures.admits
    (g.M.WordMemory.words c.fill.new.memory) (rw c.end.ensures at c.in_ok-fill.ensures.after.1) in
    record { makes = made.0; empty = made.1; lender = c.in_ok-fill.ensures.lender }
