-- The spaces that objects are made in.
use Rattle.std.specs.Prelude.{ℕ, cond, Some, None, Option, ◌==◌}
use Rattle.spaces.specs.declared.Space.{Space}
use Rattle.spaces.specs.declared.Space.TheVariants.{Dynamic, Static, ReadOnly}

-- The number by which callers know a space.
abbrev pub code_of : Space → ℕ
code_of Dynamic = 0
code_of Static = 2
code_of ReadOnly = 3

-- The space that has this number.
abbrev pub space_at : ℕ → Option Space
space_at n = cond (n == 0) (Some Dynamic) (cond (n == 2) (Some Static) (cond (n == 3) (Some ReadOnly) None))
