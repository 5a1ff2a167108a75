use Rattle.std.proofs.Common.{sym, arith}
use Rattle.store.proofs.Laid.{end-of}
use Rattle.store.proofs.state.Store.end.Goals as goal

pub returns : goal.returns
returns c = sym (end-of c.args.self.now 19 c.index-self.result (omega arith))
