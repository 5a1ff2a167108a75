-- What every call asks of a store first.
use Rattle.std.specs.Prelude.{ℕ, ◌+◌, Bool, false, cond, not, ◌&&◌, ◌||◌, is_some, Some, None, Ok, Err, Option, Result, ◌==◌, nat_le, nat_lt}
use Rattle.answers.specs.declared.Place.{Place}
use Rattle.answers.specs.declared.Refusal.{Refusal}
use Rattle.answers.specs.declared.Refusal.TheVariants.{Unknown, Foreign, Short}
use Rattle.stacks.specs.Limits.{stacks_fit}
use Rattle.words.specs.Words.{type_of, space_of, pointer_of}
use Rattle.kinds.specs.declared.kind.Kind.{Kind}
use Rattle.kinds.specs.Kinds.{kind_of, least}
use Rattle.layout.specs.Machine.{Table, window, start, room, low, high, windows, old_space}

-- The memory has the windows' words, and neither stack is over its limit.
unfoldable pub long_enough : Table → ℕ → ℕ → ℕ → Bool
long_enough t memory control bindings = nat_le (start t windows) memory && stacks_fit control bindings

-- What every call asks first: that no foreign word was found, that it names only what there is, and that it was lent enough.
abbrev pub admitted_as : Bool → Bool → Option Place → Result (Unit {0}) Refusal
admitted_as known enough (Some p) = Err (Foreign p)
admitted_as known enough None = cond known (cond enough (Ok tt) (Err Short)) (Err Unknown)

-- What every call asks first, and refuses with 17, 1 or 15.
unfoldable pub admitted : Option Place → Bool → Bool → Result (Unit {0}) Refusal
admitted foreign known enough = admitted_as known enough foreign

-- The n words from x on of window j are in use, all at its low end or all at its high end.
unfoldable pub in_use : Table → ℕ → ℕ → ℕ → Bool
in_use t j x n = nat_lt j windows && (nat_le (x + n) (room t j) && (nat_le (x + n) (low t j) || nat_le (high t j) x))

-- A word points into dynamic space.
unfoldable pub dynamic_word : ℕ → Bool
dynamic_word w = is_some (kind_of (type_of w)) && nat_lt (space_of w) 2

-- A word points to words in use, enough for the smallest object of its kind.
abbrev pub reaches_as : Table → ℕ → Option Kind → Bool
reaches_as t w None = false
reaches_as t w (Some κ) = not (space_of w == old_space t.now) && in_use t (window κ (space_of w)) (pointer_of w) (least κ)

-- A word points to words in use, outside the dynamic space that is not new.
unfoldable pub reaches : Table → ℕ → Bool
reaches t w = reaches_as t w (kind_of (type_of w))
