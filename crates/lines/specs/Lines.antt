-- The lines of a text, and what a reader has still to read.

use Rattle.std.specs.Prelude.{◌≡◌, ℕ, ◌+◌, ◌<◌, cond, Option, MatchOption, List, [], ◌∷◌, length, ◌==◌, ◌≢◌, slice_index}
use Rattle.lines.specs.declared.reader.Reader.{Reader}
use Rattle.lines.specs.declared.Part.{Part}

-- The byte that ends a line.
abbrev pub newline : ℕ
newline = 10

-- The byte b stands nowhere in s.
abbrev pub Free : ℕ → List ℕ → Type 0
Free b s = (i : ℕ) → i < length s → slice_index s i ≢ b

-- These lines, with a byte more at the start of the first.
abbrev pub onto : ℕ → List (List ℕ) → List (List ℕ)
onto b [] = (b ∷ []) ∷ []
onto b (l ∷ ls) = (b ∷ l) ∷ ls

-- The lines of a text, each with the newline that ends it; only a last one may lack it.
unfoldable pub lines_of : List ℕ → List (List ℕ)
lines_of [] = []
lines_of (b ∷ s) = cond (b == newline) ((b ∷ []) ∷ lines_of s) (onto b (lines_of s))

-- The bytes that a reader has not answered yet.
abbrev pub unread : Reader → List ℕ
unread r = r.rest.now

-- A reader answers its next line and the number of it, or `None` after the last.
abbrev pub ReadsLine : Reader → Option Part → Reader → Type 0
ReadsLine r answer after =
    MatchOption answer ((lines_of (unread r) ≡ []) × (after ≡ r))
    (λ p. (lines_of (unread r) ≡ p.bytes.now ∷ lines_of (unread after)) × (p.line ≡ r.line + 1) × (after.line ≡ p.line))

-- Lines, each with its number, where the first has n + 1.
abbrev pub numbered : ℕ → List (List ℕ) → List (List ℕ × ℕ)
numbered n [] = []
numbered n (l ∷ ls) = (l, n + 1) ∷ numbered (n + 1) ls
