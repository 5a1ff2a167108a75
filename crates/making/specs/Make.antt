-- A new object: where it goes, and what that leaves.
use Rattle.std.specs.Prelude.{ℕ, ◌+◌, ◌-◌, ◌%◌, cond, List, length, Ok, Err, Result, ◌==◌, nat_le, nat_lt, slice_set}
use Rattle.words.specs.Words.{pointer_word}
use Rattle.memory.specs.Pasted.{pasted}
use Rattle.kinds.specs.declared.kind.Kind.{Kind}
use Rattle.kinds.specs.Kinds.{code}
use Rattle.answers.specs.declared.Refusal.{Refusal}
use Rattle.answers.specs.declared.Refusal.TheVariants.{NoRoom, Short}
use Rattle.layout.specs.Machine.{Table, Machine, window, start, low, high, now_space, with_cursors, with_heap, with_register}

-- A block of words is written, where the memory has the places.
unfoldable pub emplaced : ℕ → List ℕ → List ℕ → List ℕ × Result (Unit {0}) Refusal
emplaced a xs ws = cond (nat_le (a + length xs) (length ws)) (pasted ws a xs, Ok tt) (ws, Err Short)

-- The window of new objects of kind κ in space s.
abbrev pub target : Table → Kind → ℕ → ℕ
target t κ s = window κ (now_space t.now s)

-- Where in its window a new object of n words goes: dynamic ones below the last, others above it.
unfoldable pub room_for : Table → Kind → ℕ → ℕ → Result ℕ Refusal
room_for t κ s n =
    cond (nat_lt (high t (target t κ s) - low t (target t κ s)) n) (Err NoRoom) (Ok (cond (s == 0) (high t (target t κ s) - n) (low t (target t κ s))))

-- The n words from x on of its window are in use.
unfoldable pub claimed : Kind → ℕ → ℕ → ℕ → Table → Table
claimed κ s x n t =
    with_cursors t (cond (s == 0) t.lows (slice_set t.lows (target t κ s) (x + n))) (cond (s == 0) (slice_set t.highs (target t κ s) x) t.highs) t.tos

-- A new object at x of its window, by what writing its words left.
abbrev pub placed : Kind → ℕ → List ℕ → ℕ → ℕ → Machine → List ℕ × Result (Unit {0}) Refusal → Machine × Result ℕ Refusal
placed κ s xs to x m (ws, Ok u) =
    (with_register (with_heap m ws (claimed κ s x (length xs) m.table)) to (pointer_word (code κ % 16) (now_space m.table.now s % 4) (x % 16777216)), Ok 0)
placed κ s xs to x m (ws, Err e) = (m, Err e)

-- A new object, by the place that was found for it.
abbrev pub made_at : Kind → ℕ → List ℕ → ℕ → Machine → Result ℕ Refusal → Machine × Result ℕ Refusal
made_at κ s xs to m (Ok x) = placed κ s xs to x m (emplaced (start m.table (target m.table κ s) + x) xs m.words)
made_at κ s xs to m (Err e) = (m, Err e)

-- An object of kind κ in space s, with the words xs, is made, and a register points to it.
unfoldable pub made : Kind → ℕ → List ℕ → ℕ → Machine → Machine × Result ℕ Refusal
made κ s xs to m = made_at κ s xs to m (room_for m.table κ s (length xs))
