-- What holds of the spelling of values.

use Rattle.std.specs.Prelude.{◌≡◌, ℕ, List}
use Rattle.numerals.specs.Numbers.{Graphic}

pub record SpellingLaws {A : Type 0} (spelling : A → List ℕ) (fits : A → Type 0) : Type 0 where
  -- no space stands in a spelling, and no byte that ends a line
  pub graphic : (x : A) → fits x → Graphic (spelling x)
  -- no two values are spelled alike
  pub one : (x y : A) → fits x → fits y → spelling x ≡ spelling y → x ≡ y
