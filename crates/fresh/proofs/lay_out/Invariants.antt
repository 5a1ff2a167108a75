-- The windows so far are laid out, and the next begins after them.
use Rattle.std.proofs.Common.{◌≡◌, take, sum}
use Rattle.fresh.specs.Made.{LaidOut}
use Rattle.fresh.proofs.lay_out.Given as goal

abbrev pub invariant-loop-i : goal.invariant-loop-i
invariant-loop-i l = LaidOut l.windows l.fn.rooms l.i × (l.start ≡ sum (take l.i l.fn.rooms))
