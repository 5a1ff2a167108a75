-- As many words of the block as there were turns have been written.
use Rattle.std.proofs.Common.{◌≡◌, ℕ, List, length, take}
use Rattle.memory.specs.Access.{Gives}
use Rattle.memory.specs.Pasted.{pasted}
use Rattle.memory.proofs.blocks.put.Given as goal

abbrev pub invariant-loop-i : goal.invariant-loop-i
invariant-loop-i g l = let m = g.M.WordMemory in record {
  written : (ws : List ℕ) → length ws ≡ l.n → Gives (goal.F-post g l.word) ws → m.words l.memory ≡ pasted (m.words l.initial.memory) l.at (take l.i ws);
  len : length (m.words l.memory) ≡ length (m.words l.initial.memory);
  lender : m.lender l.memory ≡ m.lender l.initial.memory;
}
