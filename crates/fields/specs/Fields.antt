-- How the fields of a line are written.

use Rattle.std.specs.Prelude.{ℕ, List, [], ◌∷◌, ◌++◌, codes}
use Rattle.lines.specs.Lines.{newline}

-- The byte between two fields.
abbrev pub space : ℕ
space = 32

-- A field, the byte that ends it, and the rest of the line.
abbrev pub field_text : List ℕ → List ℕ → ℕ → List ℕ → List ℕ
field_text key value end rest = key ++ (codes "=" ++ (value ++ (end ∷ rest)))

-- Fields, given by key and value, with a space between two and a newline after the last.
abbrev pub spaced : List (List ℕ × List ℕ) → List ℕ
spaced [] = newline ∷ []
spaced (f ∷ []) = field_text f.0 f.1 newline []
spaced (f ∷ (g ∷ fs)) = field_text f.0 f.1 space (spaced (g ∷ fs))
