-- What a call promises: it answers as the graph does, leaves a heap that shows the graph after, and touches nothing else.
use Rattle.std.specs.Prelude.{◌≡◌, ℕ, ◌+◌, ◌-◌, ◌<◌, ◌≤◌, Bool, cond, not, ◌≢◌, length, is_ok, Some, None, Ok, Err, Option, Result, slice_index}
use Rattle.answers.specs.declared.Place.{Place}
use Rattle.answers.specs.declared.Refusal.{Refusal}
use Rattle.answers.specs.declared.Refusal.TheVariants.{Foreign}
use Rattle.answers.specs.Numbers.{place_of}
use Rattle.graph.specs.Graph.{Kind}
use Rattle.graph.specs.Calls.{State, Call, outcome}
use Rattle.layout.specs.Machine.{Table, Machine, windows, window, start, room, low, high, now_space}
use Rattle.layout.specs.Shows.{Shows}
use Rattle.store.specs.Checks.{long_enough}

-- The words of a kind's window, and how many are in use; space 0 is the dynamic space that is new.
abbrev pub room_in : Table → Kind → ℕ → ℕ
room_in t κ e = room t (window κ (now_space t.now e))

-- The words in use of a kind's window.
abbrev pub used_in : Table → Kind → ℕ → ℕ
used_in t κ e = low t (window κ (now_space t.now e)) + (room_in t κ e - high t (window κ (now_space t.now e)))

-- A machine shows a state: its graph, and the words in use and the room of each kind and space.
pub record Depicts (m : Machine) (s : State) : Type 0 where
  pub shows : Shows m s.graph
  pub used_is : (κ : Kind) (e : ℕ) → e < 4 → e ≢ 1 → s.used κ e ≡ used_in m.table κ e
  pub room_is : (κ : Kind) (e : ℕ) → e < 4 → e ≢ 1 → s.room κ e ≡ room_in m.table κ e

-- For every state that the machine shows, the call's answer or refusal is the state's, and the machine shows the state after.
abbrev pub Answers : {A : Type 0} → Call A → Machine → Machine → Result A Refusal → Type 0
Answers c m m' r = (s : State) → Depicts m s → (r ≡ outcome c s) × Depicts m' (cond (is_ok r) (c.after s) s)

-- The memory is shorter than the windows, or a stack is over its limit.
abbrev pub short : Machine → ℕ → ℕ → Bool
short m control bindings = not (long_enough m.table (length m.words) control bindings)

-- The windows are where they were, and the words past them as they were.
pub record Within (m m' : Machine) : Type 0 where
  pub starts : m'.table.starts ≡ m.table.starts
  pub long : length m'.words ≡ length m.words
  pub past : (x : ℕ) → start m.table windows ≤ x → slice_index m'.words x ≡ slice_index m.words x

-- A step that is granted stays within the windows, and one that is refused leaves everything as it was.
abbrev pub Stays : {A : Type 0} → Machine → Machine → Result A Refusal → Type 0
Stays m m' (Ok a) = Within m m'
Stays m m' (Err e) = m' ≡ m

-- The place of a foreign word is remembered.
abbrev pub remembered : Option Place → Option Place → Option Place
remembered (Some p) q = Some p
remembered None q = q

-- The machine, with the foreign word remembered that a refusal names.
abbrev pub noted : Refusal → Machine → Machine
noted e m = record { words = m.words; table = m.table; stacks = m.stacks; edits = m.edits; space = m.space; foreign = remembered (place_of e) m.foreign }

-- A call that is granted stays within the windows; one that is refused leaves everything as it was, but that a foreign word is remembered.
abbrev pub Keeps : {A : Type 0} → Machine → Machine → Result A Refusal → Type 0
Keeps m m' (Ok a) = Within m m'
Keeps m m' (Err e) = m' ≡ noted e m

-- Once a foreign word was found, every call answers with it.
abbrev pub Sticks : {A : Type 0} → Machine → Result A Refusal → Type 0
Sticks m r = (p : Place) → m.foreign ≡ Some p → r ≡ Err (Foreign p)

-- What a call that answered r leaves of a machine: a foreign word is remembered that an error's refusal names.
abbrev pub noted_of : {A E : Type 0} → (E → Refusal) → Result A E → Machine → Machine
noted_of cause (Ok a) m = m
noted_of cause (Err e) m = noted (cause e) m

-- The same where the error is the refusal itself.
abbrev pub noted_by : {A : Type 0} → Result A Refusal → Machine → Machine
noted_by r m = noted_of (λ e. e) r m

-- What every call promises of the machine m that it found, the machine m' that it left and its answer r: whatever m was, it did the step
-- f and remembered a foreign word; where m shows a state it answered as the call c does; it kept to the windows; and it repeats a 17.
pub record Promised {A : Type 0} (c : Call A) (f : Machine → Machine × Result A Refusal) (m m' : Machine) (r : Result A Refusal) : Type 0 where
  pub does : (m₁ : Machine) × ((m₁, r) ≡ f m) × (m' ≡ noted_by r m₁)
  pub answers : Answers c m m' r
  pub keeps : Keeps m m' r
  pub sticks : Sticks m r
