-- The windows of the kinds so far have their words.
use Rattle.std.proofs.Common.{◌≡◌, ◌*◌, length, take}
use Rattle.fresh.specs.Windows.{lengths}
use Rattle.fresh.proofs.lengths.Given as goal

abbrev pub invariant-loop-k : goal.invariant-loop-k
invariant-loop-k l = (length l.rooms ≡ 20) × (take (4 * l.k) l.rooms ≡ lengths (take l.k l.w-items))
