-- An object's head, read word by word and believed only where a call could have left it so.
use Rattle.std.specs.Prelude.{ℕ, ◌+◌, ◌-◌, ◌/◌, ◌%◌, Bool, cond, not, ◌&&◌, ◌||◌, List, length, Some, None, Ok, Err, Option, Result, ◌==◌, nat_lt, slice_index}
use Rattle.words.specs.Words.{type_of, space_of, pointer_of, access_of, count_of}
use Rattle.words.specs.Packing.{packed_count}
use Rattle.kinds.specs.declared.kind.Kind.{Kind}
use Rattle.kinds.specs.Kinds.{kind_of, boxed, heads, least, size_by, accessible}
use Rattle.answers.specs.declared.Place.TheVariants.{Memory}
use Rattle.answers.specs.declared.Refusal.{Refusal}
use Rattle.answers.specs.declared.Refusal.TheVariants.{WrongKind, Foreign, Short}
use Rattle.layout.specs.Machine.{Table, window, start}
use Rattle.store.specs.Checks.{in_use}
use Rattle.objects.specs.declared.opened.Opened.{Opened}

-- One step that may be refused, and then another on what it answered.
abbrev pub next : {A B : Type 0} → Result A Refusal → (A → Result B Refusal) → Result B Refusal
next (Ok a) f = f a
next (Err e) f = Err e

-- What stands in an option, or a refusal.
abbrev pub or_else : {A : Type 0} → Option A → Refusal → Result A Refusal
or_else (Some a) e = Ok a
or_else None e = Err e

-- The word at a place of the memory.
abbrev pub fetched : List ℕ → ℕ → Result ℕ Refusal
fetched ws a = cond (nat_lt a (length ws)) (Ok (slice_index ws a)) (Err Short)

-- A word is a header, where the kind has one.
abbrev pub headed : Kind → ℕ → Bool
headed κ w = heads κ == 0 || w / 16777216 == 16

-- The cells of a boxed object of n words.
abbrev pub boxed_cells : Kind → ℕ → Option ℕ
boxed_cells κ n = cond (nat_lt n (heads κ) || nat_lt 65534 (n - heads κ)) None (Some (n - heads κ))

-- The entries of an unboxed object of n words whose second word is w.
abbrev pub packed_cells : Kind → ℕ → ℕ → Option ℕ
packed_cells κ n w =
    cond (not (accessible κ (access_of w)) || (nat_lt 65534 (count_of w) || not (n == heads κ + packed_count (access_of w % 5) (count_of w)))) None (Some (count_of w))

-- Cells and access type of an object of kind κ and n words that begins at a.
unfoldable pub measured : List ℕ → Kind → ℕ → ℕ → Result (ℕ × ℕ) Refusal
measured ws κ a n =
    cond (boxed κ) (next (or_else (boxed_cells κ n) (Foreign (Memory a))) (λ c. Ok (c, 0)))
    (next (fetched ws (a + 1)) (λ w. next (or_else (packed_cells κ n w) (Foreign (Memory (a + 1)))) (λ c. Ok (c, access_of w))))

-- The place that a word of kind κ points to.
unfoldable pub located : Table → Kind → ℕ → ℕ
located t κ w = start t (window κ (space_of w)) + pointer_of w

-- How many words the object of kind κ has that a word points to: all of them are in use.
unfoldable pub extent : Table → List ℕ → Kind → ℕ → Result ℕ Refusal
extent t ws κ w =
    cond (in_use t (window κ (space_of w)) (pointer_of w) (least κ))
    (next (fetched ws (located t κ w))
    (λ first. cond (headed κ first && in_use t (window κ (space_of w)) (pointer_of w) (size_by κ first)) (Ok (size_by κ first)) (Err (Foreign (Memory (located t κ w))))))
    (Err (Foreign (Memory (located t κ w))))

-- The object of kind κ that a word leads to, with these cells and this access type.
abbrev pub opened_with : Table → ℕ → Kind → ℕ × ℕ → Opened
opened_with t w κ c = record { kind = κ; space = space_of w; offset = pointer_of w; base = located t κ w; cells = c.0; access = c.1 }

-- The object that a word leads to, by the kind that its type code names.
abbrev pub opened_as : Table → List ℕ → ℕ → Option Kind → Result Opened Refusal
opened_as t ws w None = Err WrongKind
opened_as t ws w (Some κ) = next (extent t ws κ w) (λ n. next (measured ws κ (located t κ w) n) (λ c. Ok (opened_with t w κ c)))

-- The object that a word leads to.
unfoldable pub opened : Table → List ℕ → ℕ → Result Opened Refusal
opened t ws w = opened_as t ws w (kind_of (type_of w))
