use Rattle.std.proofs.Common.{◌≡◌, ◌+◌, ◌-◌, ◌*◌, ◌++◌, length, take, get_or, sym, refl, ap, ◌∙◌, arith}
use Rattle.std.proofs.lemmas.List.{take_all}
use Rattle.std.proofs.lemmas.Slice.{take-put_mid}
use Rattle.fresh.specs.Windows.{lengths, of_kind, no_windows}
use Rattle.fresh.proofs.Rooms.{lengths_none, lengths-more, length-put}
use Rattle.fresh.proofs.lengths.Goals as goal

pub loop-k-init : goal.loop-k-init
loop-k-init c = (refl, sym lengths_none)

pub loop-k-preserved : goal.loop-k-preserved
loop-k-preserved c =
    let k = c.loop-k.k in
    let w = get_or c.args.windows k no_windows in
    let new = c.copy_from_slice.new.self in
    let e : 4 * (k + 1) ≡ 4 * k + 4 = omega arith in
    let m = lengths-more c.args.windows k no_windows (omega arith) in
    let f : new ≡ of_kind w = c.copy_from_slice.ensures.after ∙ c.rooms.ensures in
    let n : length new ≡ 4 = ap length f in
    let t = take-put_mid (4 * k) (4 * k + 4 - 4 * k) c.loop-k.rooms new (4 * k + 4) (omega (arith, n)) (omega (arith, c.loop-k.invariant.0)) in
    (length-put (4 * k) (4 * k + 4 - 4 * k) c.loop-k.rooms new (omega (arith, n)) (omega (arith, c.loop-k.invariant.0)) ∙ c.loop-k.invariant.0, rw e (t ∙ ap (λ xs. take (4 * k) c.loop-k.rooms ++ xs) f ∙ ap (λ xs. xs ++ of_kind w) c.loop-k.invariant.1 ∙ sym m))

pub returns : goal.returns
returns c =
    let e = take_all (4 * c.loop-k.k) c.loop-k.rooms (omega arith) in
    let f = take_all c.loop-k.k c.args.windows (omega arith) in sym e ∙ c.loop-k.invariant.1 ∙ ap lengths f
