-- Each turn writes one word more of the block, and none is refused.
use Rattle.std.proofs.Common.{◌+◌, ◌<◌, length, sym, refl, ◌∙◌, arith}
use Rattle.std.proofs.lemmas.List.{length-set}
use Rattle.memory.proofs.Pasting.{pasted-none, pasted-more}
use Rattle.memory.proofs.blocks.put.Goals as goal

pub loop-i-init : goal.loop-i-init
loop-i-init g c =
    record { written = λ ws e d. sym (pasted-none (g.M.WordMemory.words c.args.memory.now) c.args.at); len = refl; lender = refl }

pub loop-i-preserved : goal.loop-i-preserved
loop-i-preserved g c =
    let wrote = c.in_ok-write.ensures in
    let m = g.M.WordMemory in record {
      written = λ ws e d.
          let l : c.loop-i.i < length ws = omega arith in
          let r = d c.loop-i.i c.word.result l c.word.ensures in
          let more = pasted-more (m.words c.args.memory.now) c.args.at ws c.loop-i.i l in
          cc (wrote.after.1, c.loop-i.invariant.written ws e d);
      len = rw wrote.after.1 (length-set (m.words c.loop-i.memory) (c.args.at + c.loop-i.i) c.word.result ∙ c.loop-i.invariant.len);
      lender = cc wrote.lender;
    }
