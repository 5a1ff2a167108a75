use Rattle.std.proofs.Common.{sym, ◌∙◌, rules}
use Rattle.spaces.specs.Spaces.{space_at}
use Rattle.heap.proofs.Named.{named-fault}
use Rattle.heap.proofs.state.Heap.run_text.Goals as goal

pub returns-in_err-space-clause-runs : goal.returns-in_err-space-clause-runs
returns-in_err-space-clause-runs g c =
    let n = named-fault c.args.self.now.store.foreign (space_at c.args.space) _ c.named_space.result c.in_err-space.field-0.0 c.named_space.ensures (sym c.at_line.ensures ∙ c.in_err-space.was) in
    let e = n.1 in
    let f = n.2 in search rules
