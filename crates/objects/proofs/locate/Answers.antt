use Rattle.std.proofs.Common.{◌<◌, sym, refl, arith}
use Rattle.words.specs.Words.{space_of}
use Rattle.layout.proofs.Windows.{window-below}
use Rattle.store.proofs.Laid.{start-of}
use Rattle.objects.specs.Open.{located}
use Rattle.objects.proofs.locate.Goals as goal

pub returns : goal.returns
unfolding located
returns c =
    let b : c.window.result < 20 = rw (c.window.ensures, c.space_code.ensures) (window-below c.args.kind (space_of c.args.w) (omega arith)) in
    let e = start-of c.args.store.now c.window.result c.index-store-window.result b in
    rw (sym e, c.window.ensures, c.space_code.ensures, c.pointer_offset.ensures) refl
