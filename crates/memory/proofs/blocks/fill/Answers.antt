-- The block is as many times the word as there are places.
use Rattle.std.proofs.Common.{replicate, rules}
use Rattle.std.proofs.lemmas.List.{length-replicate, get_or-replicate}
use Rattle.memory.proofs.blocks.fill.Goals as goal

pub returns-clause-after : goal.returns-clause-after
returns-clause-after g c =
    let n = length-replicate c.args.n c.args.w in
    rw n at (c.put.ensures.after (replicate c.args.n c.args.w) n (λ i r l p. search (rules, get_or-replicate)))
