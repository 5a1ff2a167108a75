-- A block of words written over a part of a list of words.
use Rattle.std.specs.Prelude.{ℕ, ◌+◌, List, [], ◌∷◌, slice_set}

-- The words ws with the block xs written over them from place a on; what would lie past the end is dropped.
unfoldable pub pasted : List ℕ → ℕ → List ℕ → List ℕ
pasted ws a [] = ws
pasted ws a (x ∷ xs) = pasted (slice_set ws a x) (a + 1) xs
