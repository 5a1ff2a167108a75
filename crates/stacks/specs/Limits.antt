-- How long the stacks may be.
use Rattle.std.specs.Prelude.{ℕ, Bool, ◌&&◌, leb}

-- A control stack has at most 65,536 words and a binding stack at most 16,384 records.
abbrev pub stacks_fit : ℕ → ℕ → Bool
stacks_fit control bindings = leb control 65536 && leb bindings 16384
