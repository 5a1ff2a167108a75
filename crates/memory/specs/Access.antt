-- What a read and a write of a word memory answer and leave.
use Rattle.std.specs.Prelude.{◌≡◌, ℕ, ◌+◌, ◌<◌, ◌≤◌, List, length, replicate, Result, MatchResult, slice_index, slice_set}
use Rattle.memory.specs.Pasted.{pasted}

-- A read of place i of the words ws answers r: the word there, or a refusal exactly where i is not below the length.
abbrev pub Reads : {E : Type 0} → List ℕ → ℕ → Result ℕ E → Type 0
Reads ws i r = MatchResult r (λ w. (i < length ws) × (w ≡ slice_index ws i)) (λ _. length ws ≤ i)

-- A write of w at place i of the words ws answers r and leaves ws': w is put there and no other word is changed, or it is refused
-- with no change exactly where i is not below the length.
abbrev pub Writes : {T E : Type 0} → List ℕ → ℕ → ℕ → List ℕ → Result T E → Type 0
Writes ws i w ws' r = MatchResult r (λ _. (i < length ws) × (ws' ≡ slice_set ws i w)) (λ _. (length ws ≤ i) × (ws' ≡ ws))

-- A write of the block xs from place a of the words ws on answers r and leaves ws': the whole block is put there, or it is refused
-- with no change exactly where it would pass the end.
abbrev pub Pastes : {T E : Type 0} → List ℕ → ℕ → List ℕ → List ℕ → Result T E → Type 0
Pastes ws a xs ws' r = MatchResult r (λ _. (a + length xs ≤ length ws) × (ws' ≡ pasted ws a xs)) (λ _. (length ws < a + length xs) × (ws' ≡ ws))

-- The same of a block of n words w.
abbrev pub Fills : {T E : Type 0} → List ℕ → ℕ → ℕ → ℕ → List ℕ → Result T E → Type 0
Fills ws a n w ws' r = MatchResult r (λ _. (a + n ≤ length ws) × (ws' ≡ pasted ws a (replicate n w))) (λ _. (length ws < a + n) × (ws' ≡ ws))

-- Where a call at the place i of a block may give the word r, the words ws have r there.
abbrev pub Gives : (ℕ → ℕ → Type 0) → List ℕ → Type 0
Gives call ws = (i r : ℕ) → i < length ws → call i r → r ≡ slice_index ws i
