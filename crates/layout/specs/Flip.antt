-- The flip: new space becomes old, and the other dynamic space new and empty.
use Rattle.std.specs.Prelude.{◌≡◌, ℕ, ◌+◌, ◌-◌, ◌<◌, true, false, cond, not, ◌&&◌, List, length, ◌==◌, slice_index}
use Rattle.graph.specs.Graph.{Kind}
use Rattle.graph.specs.Shape.{index, boxed}
use Rattle.layout.specs.Machine.{Table, Stacks, Machine, window, room, low, high, dirty, old_space}
use Rattle.layout.specs.Places.{Tag, gap, here, past, Places}

-- The tag of an address after a flip: words of dynamic objects belong to the past.
unfoldable pub turn : (ℕ → ℕ) → Tag → Tag
turn f gap = gap
turn f (past i k) = gap
turn f (here i k) = cond (f i == 0) (past i k) (here i k)

-- What lay in new space is live, and has no place yet.
abbrev pub flipping : Places → Places
flipping p = record {
  count = p.count;
  kind = p.kind;
  space = p.space;
  size = p.size;
  now = old_space p.now;
  placed = λ i. p.placed i && not (p.space i == 0);
  new = p.new;
  live = λ i. p.placed i && (p.space i == 0);
  old = p.new;
  tag = λ x. turn p.space (p.tag x);
}

-- The table after a flip, with these cursors, marks and words held.
abbrev pub flipped_table : Table → List ℕ → List ℕ → List ℕ → List ℕ → List ℕ → Table
flipped_table t ls hs fs ds es = record { starts = t.starts; lows = ls; highs = hs; froms = fs; tos = ds; frozen = t.frozen; held = es; now = old_space t.now }

-- The stacks after a flip: all their words are dirty.
abbrev pub flipped_stacks : Stacks → Stacks
flipped_stacks s = record { registers = s.registers; control = s.control; bindings = s.bindings; control_dirty = length s.control; bindings_dirty = length s.bindings }

-- The machine after a flip, with these cursors, marks and words held.
abbrev pub flipped_machine : Machine → List ℕ → List ℕ → List ℕ → List ℕ → List ℕ → Machine
flipped_machine m ls hs fs ds es = record { words = m.words; table = flipped_table m.table ls hs fs ds es; stacks = flipped_stacks m.stacks; edits = m.edits; space = m.space; foreign = m.foreign }

-- The cursors and marks afterwards: the space that becomes new is empty, boxed static words in use are dirty.
pub record Flipped (t : Table) (ls hs fs ds es : List ℕ) : Type 0 where
  pub emptied : (κ : Kind) → slice_index ls (window κ (old_space t.now)) ≡ 0
  pub whole : (κ : Kind) → slice_index hs (window κ (old_space t.now)) ≡ room t (window κ (old_space t.now))
  pub same_lows : (κ : Kind) (s : ℕ) → 1 < s → s < 4 → slice_index ls (window κ s) ≡ low t (window κ s)
  pub same_highs : (κ : Kind) (s : ℕ) → 1 < s → s < 4 → slice_index hs (window κ s) ≡ high t (window κ s)
  pub static_from : (κ : Kind) → boxed κ ≡ true → slice_index fs (window κ 2) ≡ 0
  pub static_to : (κ : Kind) → boxed κ ≡ true → slice_index ds (window κ 2) ≡ low t (window κ 2)
  pub held_is : (κ : Kind) → slice_index es (index κ) ≡ low t (window κ t.now) + (room t (window κ t.now) - high t (window κ t.now))

-- No word is dirty.
pub record Clean (m : Machine) : Type 0 where
  pub words_clean : (l x : ℕ) → dirty m.table l x ≡ false
  pub control_clean : m.stacks.control_dirty ≡ 0
  pub bindings_clean : m.stacks.bindings_dirty ≡ 0
