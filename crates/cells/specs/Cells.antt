-- The cells and entries of an opened object.
use Rattle.std.specs.Prelude.{ℕ, ◌+◌, ◌/◌, ◌%◌, ◌^◌, Bool, true, false, cond, not, ◌&&◌, ◌||◌, List, length, Some, None, Ok, Err, Option, Result, ◌==◌, nat_lt, slice_index, slice_set}
use Rattle.words.specs.Packing.{bits_of, per_word, entry_of, with_entry}
use Rattle.kinds.specs.declared.kind.Class.{Class}
use Rattle.kinds.specs.declared.kind.Class.TheVariants.{Fixnum, Character, Null, Unset, Pointer}
use Rattle.kinds.specs.Kinds.{index, boxed, heads, takes, lacks, is_unset, entry_word, word_class, entry_number}
use Rattle.answers.specs.declared.Place.TheVariants.{Memory}
use Rattle.answers.specs.declared.Refusal.{Refusal}
use Rattle.answers.specs.declared.Refusal.TheVariants.{Foreign, Short}
use Rattle.answers.specs.declared.Refusal.TheVariants.{Unset as no_value}
use Rattle.layout.specs.Machine.{Table}
use Rattle.store.specs.Checks.{reaches, dynamic_word}
use Rattle.objects.specs.declared.opened.Opened.{Opened}
use Rattle.objects.specs.Open.{next, fetched}

-- The place of cell k of a boxed object, and of the word with entry k of an unboxed one.
abbrev pub cell_place : Opened → ℕ → ℕ
cell_place o k = o.base + heads o.kind + k

-- The place of the word that has entry k of an unboxed object.
abbrev pub entry_place : Opened → ℕ → ℕ
entry_place o k = o.base + heads o.kind + k / per_word (o.access % 5)

-- A pointer in a cell leads to an object in use, and out of read-only space to no dynamic one.
abbrev pub leads_on : Table → Opened → ℕ → Class → Bool
leads_on t o w Fixnum = true
leads_on t o w Character = true
leads_on t o w Null = true
leads_on t o w Unset = true
leads_on t o w (Pointer κ) = reaches t w && not (o.space == 3 && dynamic_word w)

-- The word of a cell, by its class, where a call could have left it there.
abbrev pub believed_as : Table → Opened → ℕ → ℕ → Option Class → Result ℕ Refusal
believed_as t o k w None = Err (Foreign (Memory (cell_place o k)))
believed_as t o k w (Some c) =
    cond (is_unset c && lacks o.kind k) (Err no_value) (cond (leads_on t o w c && takes o.kind k c) (Ok w) (Err (Foreign (Memory (cell_place o k)))))

-- The word that a cell holds, where a call could have left it there.
unfoldable pub believed : Table → Opened → ℕ → ℕ → Result ℕ Refusal
believed t o k w = believed_as t o k w (word_class w)

-- The word of cell or entry k.
unfoldable pub loaded : Table → List ℕ → Opened → ℕ → Result ℕ Refusal
loaded t ws o k =
    cond (boxed o.kind) (next (fetched ws (cell_place o k)) (λ w. believed t o k w))
    (next (fetched ws (entry_place o k)) (λ w. Ok (entry_word o.kind (entry_of w (o.access % 5) k))))

-- Cell or entry k can take a word of this class.
abbrev pub fits_as : Opened → ℕ → ℕ → Option Class → Bool
fits_as o k w None = false
fits_as o k w (Some c) = takes o.kind k c && (boxed o.kind || nat_lt (entry_number w) (2 ^ bits_of (o.access % 5)))

-- Cell or entry k can take the word.
unfoldable pub fits_cell : Opened → ℕ → ℕ → Bool
fits_cell o k w = fits_as o k w (word_class w)

-- The object takes no writes.
unfoldable pub frozen_cell : Table → Opened → Bool
frozen_cell t o = o.space == 3 && nat_lt o.offset (slice_index t.frozen (index o.kind))

-- A word of the memory is written.
abbrev pub stored : List ℕ → ℕ → ℕ → List ℕ × Result (Unit {0}) Refusal
stored ws a w = cond (nat_lt a (length ws)) (slice_set ws a w, Ok tt) (ws, Err Short)

-- The word with entry k, with that entry replaced.
abbrev pub entered : Opened → ℕ → ℕ → ℕ → ℕ
entered o k w old = with_entry old (o.access % 5) k (entry_number w % 2 ^ bits_of (o.access % 5))

-- Cell or entry k becomes the word.
unfoldable pub saved : Opened → ℕ → ℕ → List ℕ → List ℕ × Result (Unit {0}) Refusal
saved o k w ws = cond (boxed o.kind) (stored ws (cell_place o k) w) (stored ws (entry_place o k) (entered o k w (slice_index ws (entry_place o k))))
