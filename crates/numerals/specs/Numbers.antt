-- What it is to read a text exactly, which numbers a part text can spell, and which bytes stand in a value.

use Rattle.std.specs.Prelude.{◌≡◌, ℕ, ◌^◌, ◌<◌, List, length, slice_index, ℤ, Result, MatchResult, unsigned_abs}

-- The answer is the x that is written so, and a text is refused only where no x that fits is written so.
abbrev pub Parses : {A E : Type 0} → (A → List ℕ) → (A → Type 0) → List ℕ → Result A E → Type 0
Parses {A} written fits s r = MatchResult r (λ x. (s ≡ written x) × fits x) (λ _. (x : A) → s ≡ written x → fits x → ⊥)

-- At most nine digits.
abbrev pub Small : ℕ → Type 0
Small n = n < 10 ^ 9

-- At most nine digits after its sign.
abbrev pub SmallSigned : ℤ → Type 0
SmallSigned z = unsigned_abs z < 10 ^ 9

-- Every byte prints: none is a space or ends a line.
abbrev pub Graphic : List ℕ → Type 0
Graphic s = (i : ℕ) → i < length s → 32 < slice_index s i
