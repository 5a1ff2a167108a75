-- Words that are stored as 16-bit halves, the lower half first.
use Rattle.std.specs.Prelude.{ℕ, List, [], ◌∷◌}
use Rattle.words.specs.Words.{joined}

-- The words that a list of halves means: word p is made of the halves 2p and 2p + 1, and an odd last half is left out.
abbrev pub paired : List ℕ → List ℕ
paired [] = []
paired (lo ∷ []) = []
paired (lo ∷ (hi ∷ rest)) = joined lo hi ∷ paired rest

-- The odd last half of a list of halves that no word is made of, if there is one.
abbrev pub left_out : List ℕ → List ℕ
left_out [] = []
left_out (lo ∷ []) = lo ∷ []
left_out (lo ∷ (hi ∷ rest)) = left_out rest
