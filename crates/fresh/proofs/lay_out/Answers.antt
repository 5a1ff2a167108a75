use Rattle.std.proofs.Common.{◌+◌, ◌≤◌, refl, arith}
use Rattle.std.proofs.lemmas.List.Sums.{sum_by_more}
use Rattle.std.proofs.ByRecursion.{All-get_or}
use Rattle.store.proofs.Sums.{sum-narrow}
use Rattle.fresh.proofs.Laying.{laid-more}
use Rattle.fresh.proofs.lay_out.Goals as goal

pub invariant_of-windows : goal.invariant_of-windows
invariant_of-windows c =
    let i = c.loop-i.i in
    let m = sum_by_more (λ x. x) c.args.rooms i 0 (omega arith) in
    let n = sum-narrow c.args.rooms (i + 1) c.requires in
    let r = All-get_or (λ n. n ≤ 65536) c.args.rooms i 0 (omega arith) c.requires in
    record { within = (omega arith, omega arith); small = (r, omega (arith, m, n, c.loop-i.invariant.1)) }

pub overflow_add-start : goal.overflow_add-start
overflow_add-start c =
    let i = c.loop-i.i in
    let m = sum_by_more (λ x. x) c.args.rooms i 0 (omega arith) in
    let n = sum-narrow c.args.rooms (i + 1) c.requires in omega (arith, m, n, c.loop-i.invariant.1)

pub loop-i-preserved : goal.loop-i-preserved
loop-i-preserved c =
    let i = c.loop-i.i in
    let m = sum_by_more (λ x. x) c.args.rooms i 0 (omega arith) in
    (laid-more c.loop-i.windows c.args.rooms i _ (omega arith) c.loop-i.invariant.0 c.loop-i.invariant.1 refl refl refl, omega (arith, m, c.loop-i.invariant.1))
