-- What a window holds.
use Rattle.std.specs.Prelude.{ℕ, ◌+◌, Bool, ◌&&◌, ◌||◌, nat_le}
use Rattle.store.specs.declared.windows.Window.{Window}

-- The n words from x on are in use, all at the low end or all at the high end.
abbrev pub holds : Window → ℕ → ℕ → Bool
holds w x n = nat_le (x + n) w.room && (nat_le (x + n) w.low || nat_le w.high x)
