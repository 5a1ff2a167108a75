use Rattle.std.proofs.Common.{◌≡◌, ◌<◌, ◌∙◌, ◌+◌, ◌==◌, length, ap, sym, arith}
use Rattle.std.proofs.Math.Seq.{map-set_same}
use Rattle.spaces.specs.Spaces.{code_of}
use Rattle.store.specs.View.{table_of}
use Rattle.store.specs.declared.windows.Window.{Window}
use Rattle.store.proofs.Laid.{low-of, high-of, ordered, laid-still, changed-unless, changed-if}
use Rattle.layout.specs.Machine.{window}
use Rattle.making.specs.Object.{words_of}
use Rattle.making.specs.Make.{target, claimed}
use Rattle.making.proofs.Room.{room-within, place-below, claimed-table}
use Rattle.making.proofs.claim.Goals as goal

pub extended-requires : goal.extended-requires
extended-requires c =
    let s = c.args.store.now in
    let d = c.index-store-j.result in
    let e : c.window-j.result ≡ target (table_of s) c.args.object.now.kind (code_of c.args.object.now.space) = c.window-j.ensures ∙ ap (window c.args.object.now.kind) c.space_now.ensures in
    let b : c.window-j.result < 20 = place-below s c.args.object.now.kind c.args.object.now.space c.window-j.result e in
    let o = ordered s c.window-j.result b in
    let r = room-within (table_of s) c.args.object.now.kind (code_of c.args.object.now.space) (length (words_of c.args.object.now)) c.args.offset (rw (sym e) o.0) c.requires in
    let p = rw (sym e) at r in
    (omega (arith, p.0, low-of s c.window-j.result d b), omega (arith, p.1, high-of s c.window-j.result d b))

pub invariant_of-store-clause-laid : goal.invariant_of-store-clause-laid
invariant_of-store-clause-laid c =
    laid-still c.args.store.now.windows c.window-j.result c.extended.result c.index-store-j.result c.extended.ensures.rest.0 c.extended.ensures.rest.1 c.args.store.now.laid

pub returns-clause-table : goal.returns-clause-table
unfolding claimed
returns-clause-table c =
    let s = c.args.store.now in
    let ws = s.windows in
    let j = c.window-j.result in
    let w = c.extended.result in
    let d = c.index-store-j.result in
    let first = code_of c.args.object.now.space == 0 in
    let e : j ≡ target (table_of s) c.args.object.now.kind (code_of c.args.object.now.space) = c.window-j.ensures ∙ ap (window c.args.object.now.kind) c.space_now.ensures in
    let begins = map-set_same (λ (w : Window). w.start) ws j w d c.extended.ensures.rest.0 in
    let rooms = map-set_same (λ (w : Window). w.room) ws j w d c.extended.ensures.rest.1 in
    let lows = changed-unless ws j w d (λ (w : Window). w.low) first (c.args.offset + (length (words_of c.args.object.now))) (rw c.size.ensures at c.extended.ensures.low) in
    let highs = changed-if ws j w d (λ (w : Window). w.high) first c.args.offset c.extended.ensures.high in
    rw (sym e) (claimed-table s _ _ _ _ begins rooms _ _ lows highs)
