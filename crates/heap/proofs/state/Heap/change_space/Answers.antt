use Rattle.std.proofs.Common.{rules}
use Rattle.access.specs.Access.{space_done}
use Rattle.spaces.specs.Spaces.{space_at}
use Rattle.laws.proofs.Views.{code-back}
use Rattle.heap.proofs.Named.{named-refused, named-granted}
use Rattle.heap.proofs.state.Heap.change_space.Goals as goal

pub returns-in_err-self : goal.returns-in_err-self
unfolding space_done
returns-in_err-self g c = let e = named-refused c.args.self.now.store.foreign (space_at c.args.space) _ c.in_err-self.field-0.0 c.in_err-self.ensures in search rules

pub returns : goal.returns
unfolding space_done
returns g c =
    let e = named-granted c.args.self.now.store.foreign (space_at c.args.space) _ c.in_ok-self.field-0 c.in_ok-self.ensures in
    let f = code-back c.args.space c.in_ok-self.field-0 e.1 in search rules
