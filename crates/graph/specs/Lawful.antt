-- What holds of every graph that calls can make.
use Rattle.std.specs.Prelude.{◌≡◌, ℕ, ◌<◌, Bool, true, false, ◌&&◌, ◌||◌, ◌≢◌, List, length, get_or, slice_index_or}
use Rattle.kinds.specs.declared.kind.Class.{Class}
use Rattle.kinds.specs.declared.kind.Class.TheVariants.{Fixnum, Character, Null, Unset, Pointer}
use Rattle.kinds.specs.Kinds.{takes, lacks, is_unset}
use Rattle.graph.specs.Graph.{Immediate, fixnum, character, null, trap, Value, plain, ref, Kind, Object, Graph, nothing}
use Rattle.graph.specs.Shape.{boxed}

-- What a value is to a cell that may take it.
abbrev pub immediate_class : Immediate → Class
immediate_class (fixnum d) = Fixnum
immediate_class (character c) = Character
immediate_class null = Null
immediate_class trap = Unset

-- What a value is to a cell that may take it.
abbrev pub class_of : List Object → Value → Class
class_of os (plain x) = immediate_class x
class_of os (ref i) = Pointer (get_or os i nothing).kind

-- A reference is to an object that was made.
abbrev pub Known : List Object → Value → Type 0
Known os (plain x) = Unit {0}
Known os (ref i) = i < length os

-- This cell may hold a value of this class: one that may be written there, or none yet.
abbrev pub holds : Kind → ℕ → Class → Bool
holds κ k c = takes κ k c || (lacks κ k && is_unset c)

-- Cells hold only what their kind takes, registers have values, and the allocation space is dynamic, static or read-only.
pub record Lawful (g : Graph) : Type 0 where
  pub cells_known : (i k : ℕ) → Known g.objects (slice_index_or (get_or g.objects i nothing).cells k (plain trap))
  pub cells_typed : (i k : ℕ) → i < length g.objects → boxed (get_or g.objects i nothing).kind ≡ true → k < length (get_or g.objects i nothing).cells →
      holds (get_or g.objects i nothing).kind k (class_of g.objects (slice_index_or (get_or g.objects i nothing).cells k (plain trap))) ≡ true
  pub registers_long : length g.registers ≡ 16
  pub registers_known : (r : ℕ) → Known g.objects (slice_index_or g.registers r (plain trap))
  pub registers_set : (r : ℕ) → r < 16 → is_unset (class_of g.objects (slice_index_or g.registers r (plain trap))) ≡ false
  pub space_known : (g.space < 4) × (g.space ≢ 1)
