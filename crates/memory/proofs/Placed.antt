-- The worked figures, with the place of a word among halves.
use Rattle.std.proofs.Common.{◌≡◌, ℕ, ◌/◌, ◌<◌, List, length, get_or, inl, inr, arith}
use Rattle.std.proofs.lemmas.List.{get_or_past}
use Rattle.std.proofs.lemmas.Bool.{cases_lt}
use Rattle.words.proofs.Figures.{figures}
use Rattle.memory.specs.Halves.{paired}
use Rattle.memory.specs.Figures.{PlacedFigures}
use Rattle.memory.proofs.Pairs.{length-paired, halves-paired}

pub placed : PlacedFigures
placed = record { formats = figures; place = at-three }
  where
    inside : (hs : List ℕ) → get_or (paired hs) 3 0 ≡ 0xB4000028 → 3 < length hs / 2
    inside hs e = elim (cases_lt 3 (length hs / 2)) [
      | inl l ↦ l
      | inr l ↦ absurd (omega (arith, e, get_or_past (paired hs) 3 0 (omega (arith, length-paired hs))))
    ]

    at-three : (hs : List ℕ) → ((k : ℕ) → get_or hs k 0 < 65536) → get_or (paired hs) 3 0 ≡ 0xB4000028 → (get_or hs 6 0 ≡ 0x0028) × (get_or hs 7 0 ≡ 0xB400)
    at-three hs b e = let p = halves-paired hs 3 b (inside hs e) in (omega (arith, p.0, e), omega (arith, p.1, e))
