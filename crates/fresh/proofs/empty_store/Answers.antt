use Rattle.std.proofs.Common.{◌<◌, length, ap, ◌∙◌, arith, refl}
use Rattle.fresh.proofs.Rooms.{length-lengths, fit-narrow}
use Rattle.fresh.proofs.Laying.{rooms-laid, lows-laid, highs-laid, first-laid, starts-laid}
use Rattle.fresh.proofs.empty_store.Goals as goal

pub lay_out-requires : goal.lay_out-requires
lay_out-requires c = rw c.lengths.ensures (fit-narrow c.args.windows c.requires)

pub invariant_of-result : goal.invariant_of-result
invariant_of-result c =
    let n = ap length c.lengths.ensures ∙ length-lengths c.args.windows in
    let w : 0 < 2 = omega arith in
    record { laid = rw (rooms-laid c.lay_out.result c.lengths.result c.lay_out.ensures (omega (arith, n))) (starts-laid c.lay_out.result c.lengths.result c.lay_out.ensures (omega (arith, n))); which = w }

pub returns : goal.returns
returns c = λ ws.
    let n = ap length c.lengths.ensures ∙ length-lengths c.args.windows in
    let rooms = rooms-laid c.lay_out.result c.lengths.result c.lay_out.ensures (omega (arith, n)) in
    let lows = lows-laid c.lay_out.result c.lengths.result c.lay_out.ensures (omega (arith, n)) in
    let highs = highs-laid c.lay_out.result c.lengths.result c.lay_out.ensures (omega (arith, n)) in
    let first = first-laid c.lay_out.result c.lengths.result c.lay_out.ensures (omega (arith, n)) in
    rw (first, rooms, lows, highs, c.lengths.ensures) refl
