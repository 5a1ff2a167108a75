-- What a heap's cursors always keep to, whatever the memory holds.
use Rattle.std.specs.Prelude.{ℕ, suc, ◌+◌, ◌<◌, ◌≤◌, List, slice_index}

-- The windows follow one another, and the cursors of each are in it.
abbrev pub Ordered : List ℕ → List ℕ → List ℕ → Type 0
Ordered starts lows highs =
    (j : ℕ) → j < 20 → (slice_index lows j ≤ slice_index highs j) × (slice_index starts j + slice_index highs j ≤ slice_index starts (suc j)) × (slice_index starts (suc j) ≤ slice_index starts j + 65536) × (slice_index starts (suc j) ≤ 1310720)
