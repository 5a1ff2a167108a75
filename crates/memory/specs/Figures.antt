-- The worked figures of the formats, with the place of a word among halves.
use Rattle.std.specs.Prelude.{◌≡◌, ℕ, ◌<◌, List, slice_index}
use Rattle.words.specs.Figures.{Figures}
use Rattle.memory.specs.Halves.{paired}

-- The figures of the formats hold, and B4000028 at place 3 of a memory of halves is 0028 at half 6 and B400 at half 7.
pub record PlacedFigures : Type 0 where
  pub formats : Figures
  pub place : (hs : List ℕ) → ((k : ℕ) → slice_index hs k < 65536) → slice_index (paired hs) 3 ≡ 0xB4000028 → (slice_index hs 6 ≡ 0x0028) × (slice_index hs 7 ≡ 0xB400)
