-- The machine: memory words, the window table, registers and stacks, as plain lists and numbers.
use Rattle.std.specs.Prelude.{◌≡◌, ℕ, suc, ◌+◌, ◌-◌, ◌*◌, ◌<◌, ◌≤◌, Bool, cond, ◌&&◌, ◌⊎◌, List, length, Option, ◌==◌, nat_le, nat_lt, slice_index, slice_set}
use Rattle.answers.specs.declared.Place.{Place}
use Rattle.graph.specs.Graph.{Kind}
use Rattle.graph.specs.Shape.{index, kinds}

-- Windows stand in order of type code, then of space code: window 4 * index + space.
pub record Table : Type 0 where
  -- Where each window begins, and the end of the last.
  pub starts : List ℕ
  -- Words in use from each window's low end; where the words made at its high end begin (its room where none are).
  pub lows : List ℕ
  pub highs : List ℕ
  -- The dirty words of each window: from, up to.
  pub froms : List ℕ
  pub tos : List ℕ
  -- Of each kind: the read-only words below are frozen; dynamic words in use at the flip.
  pub frozen : List ℕ
  pub held : List ℕ
  -- The dynamic space that is new, 0 or 1.
  pub now : ℕ

-- The registers, the words in use of both stacks, and how many of these are dirty.
pub record Stacks : Type 0 where
  pub registers : List ℕ
  pub control : List ℕ
  -- Two words a record: symbol, value.
  pub bindings : List ℕ
  -- Words below are dirty.
  pub control_dirty : ℕ
  pub bindings_dirty : ℕ

-- All that a heap and its memory are.
pub record Machine : Type 0 where
  pub words : List ℕ
  pub table : Table
  pub stacks : Stacks
  pub edits : List ℕ
  pub space : ℕ
  -- The place of a word that no call could have left, once one was found.
  pub foreign : Option Place

-- How many windows there are: four of each kind.
abbrev pub windows : ℕ
windows = 4 * kinds

-- The number of the window of a kind and a space code.
abbrev pub window : Kind → ℕ → ℕ
window κ s = 4 * index κ + s

-- Where window j begins.
abbrev pub start : Table → ℕ → ℕ
start t j = slice_index t.starts j

-- The words of window j.
abbrev pub room : Table → ℕ → ℕ
room t j = start t (suc j) - start t j

-- The words in use at the low end of window j.
abbrev pub low : Table → ℕ → ℕ
low t j = slice_index t.lows j

-- Where the words in use at the high end of window j begin.
abbrev pub high : Table → ℕ → ℕ
high t j = slice_index t.highs j

-- Place x of window j is dirty.
unfoldable pub dirty : Table → ℕ → ℕ → Bool
dirty t j x = nat_le (slice_index t.froms j) x && nat_lt x (slice_index t.tos j)

-- The dynamic space that is not new.
abbrev pub old_space : ℕ → ℕ
old_space now = 1 - now

-- The word of the memory at a place.
abbrev pub word_at : Machine → ℕ → ℕ
word_at m a = slice_index m.words a

-- The word in a register.
abbrev pub register_at : Machine → ℕ → ℕ
register_at m r = slice_index m.stacks.registers r

-- The windows are in order, and the cursors in the windows.
pub record Frame (t : Table) : Type 0 where
  pub lows_long : length t.lows ≡ windows
  pub highs_long : length t.highs ≡ windows
  pub froms_long : length t.froms ≡ windows
  pub tos_long : length t.tos ≡ windows
  pub rising : (j : ℕ) → j < windows → start t j ≤ start t (suc j)
  pub narrow : (j : ℕ) → j < windows → room t j ≤ 65536
  pub apart : (j : ℕ) → j < windows → low t j ≤ high t j
  pub within : (j : ℕ) → j < windows → high t j ≤ room t j
  pub clean_above : (j : ℕ) → j < windows → slice_index t.tos j ≤ low t j
  pub scanned_below : (j : ℕ) → j < windows → slice_index t.froms j ≤ low t j
  pub frozen_below : (κ : Kind) → slice_index t.frozen (index κ) ≤ low t (window κ 3)
  pub twins : (κ : Kind) → room t (window κ 0) ≡ room t (window κ 1)
  pub which : t.now < 2

-- The space code of an object's place.
abbrev pub now_space : ℕ → ℕ → ℕ
now_space now s = cond (s == 0) now s

-- Changes.
abbrev pub with_cursors : Table → List ℕ → List ℕ → List ℕ → Table
with_cursors t ls hs ds = record { starts = t.starts; lows = ls; highs = hs; froms = t.froms; tos = ds; frozen = t.frozen; held = t.held; now = t.now }

-- The machine with another memory.
abbrev pub with_words : Machine → List ℕ → Machine
with_words m ws = record { words = ws; table = m.table; stacks = m.stacks; edits = m.edits; space = m.space; foreign = m.foreign }

-- The machine with a register set.
abbrev pub with_register : Machine → ℕ → ℕ → Machine
with_register m r w = record {
  words = m.words;
  table = m.table;
  edits = m.edits;
  space = m.space;
  foreign = m.foreign;
  stacks = record { registers = slice_set m.stacks.registers r w; control = m.stacks.control; bindings = m.stacks.bindings; control_dirty = m.stacks.control_dirty; bindings_dirty = m.stacks.bindings_dirty };
}

-- The machine with another memory and table.
abbrev pub with_heap : Machine → List ℕ → Table → Machine
with_heap m ws t = record { words = ws; table = t; stacks = m.stacks; edits = m.edits; space = m.space; foreign = m.foreign }

-- n words from a on are written, and no other
pub record Wrote (ws ws' : List ℕ) (a n : ℕ) (f : ℕ → ℕ) : Type 0 where
  pub long : length ws' ≡ length ws
  pub inside : (k : ℕ) → k < n → slice_index ws' (a + k) ≡ f k
  pub outside : (x : ℕ) → (x < a) ⊎ (a + n ≤ x) → slice_index ws' x ≡ slice_index ws x

-- The table with other beginnings of dirty words.
abbrev pub with_froms : Table → List ℕ → Table
with_froms t fs = record { starts = t.starts; lows = t.lows; highs = t.highs; froms = fs; tos = t.tos; frozen = t.frozen; held = t.held; now = t.now }
