-- A machine shows a graph.
use Rattle.std.specs.Prelude.{◌≡◌, ℕ, zero, suc, ◌+◌, ◌-◌, ◌<◌, ◌≤◌, Bool, true, false, cond, not, ◌&&◌, ltb, ◌≢◌, List, [], ◌∷◌, length, get_or, None, ◌==◌, nat_le, nat_lt, slice_index, slice_index_or}
use Rattle.words.specs.Words.{forward_word}
use Rattle.graph.specs.Graph.{trap, Value, plain, ref, Kind, Object, Graph, Binding, nothing}
use Rattle.graph.specs.Lawful.{Lawful}
use Rattle.graph.specs.Shape.{index, want, size, Shaped}
use Rattle.layout.specs.Machine.{Table, Stacks, Machine, Frame, windows, window, start, room, low, high, dirty, old_space}
use Rattle.layout.specs.Places.{Places, space_now, new_window, new_address, old_address, Means, Fits, Map}

-- What the memory holds.
pub record Holds (p : Places) (t : Table) (ws : List ℕ) (os : List Object) : Type 0 where
  pub count_is : p.count ≡ length os
  pub kind_is : (i : ℕ) → i < p.count → p.kind i ≡ (get_or os i nothing).kind
  pub space_is : (i : ℕ) → i < p.count → p.space i ≡ (get_or os i nothing).space
  pub size_is : (i : ℕ) → i < p.count → p.size i ≡ size (slice_index_or os i nothing)
  pub long : start t windows ≤ length ws
  pub holds : (i k : ℕ) → p.placed i ≡ true → k < p.size i →
      Fits p (dirty t (new_window p i) (p.new i + k)) (slice_index ws (new_address t p i + k)) (want (slice_index_or os i nothing) k)
  pub holds_old : (i k : ℕ) → p.live i ≡ true → p.placed i ≡ false → k < p.size i →
      Fits p true (slice_index ws (old_address t p i + k)) (want (slice_index_or os i nothing) k)
  pub forward : (i : ℕ) → p.live i ≡ true → p.placed i ≡ true → slice_index ws (old_address t p i) ≡ forward_word (space_now p i) (p.new i)

-- a value that is no dynamic object
abbrev pub Steady : Places → Value → Type 0
Steady p (plain x) = Unit {0}
Steady p (ref i) = (p.placed i ≡ true) × (p.space i ≢ 0)

-- What is true of every graph that a machine shows.
pub record Rules (p : Places) (t : Table) (os : List Object) : Type 0 where
  pub steady : (i : ℕ) → i < p.count → p.space i ≢ 0 → p.placed i ≡ true
  pub closed : (i k : ℕ) → i < p.count → p.space i ≡ 3 → Steady p (slice_index_or (get_or os i nothing).cells k (plain trap))
  pub frozen_is : (i : ℕ) → i < p.count → p.space i ≡ 3 → (get_or os i nothing).frozen ≡ nat_lt (p.new i) (slice_index t.frozen (index (p.kind i)))
  pub shaped : (i : ℕ) → i < p.count → Shaped (slice_index_or os i nothing)

-- a row of words means a row of values
pub record Row (p : Places) (d : ℕ → Bool) (ws : List ℕ) (vs : List Value) : Type 0 where
  pub long : length ws ≡ length vs
  pub means : (k : ℕ) → k < length vs → Means p (d k) (slice_index ws k) (slice_index_or vs k (plain trap))

-- The values of binding records, two for each.
abbrev pub flat : List Binding → List Value
flat [] = []
flat (b ∷ bs) = ref b.symbol ∷ (b.value ∷ flat bs)

-- Registers from r on may be old.
pub record Roots (r : ℕ) (p : Places) (s : Stacks) (rs cs : List Value) (bs : List Binding) : Type 0 where
  pub registers : Row p (λ k. nat_le r k) s.registers rs
  pub control : Row p (λ k. ltb k s.control_dirty) s.control cs
  pub bindings : Row p (λ k. ltb k s.bindings_dirty) s.bindings (flat bs)

-- The words below a window's low end are words of objects, with no gap.
pub record Filled (p : Places) (t : Table) : Type 0 where
  pub filled : (κ : Kind) (s x : ℕ) → s < 4 → s ≢ old_space p.now → x < low t (window κ s) →
      (i : ℕ) × (k : ℕ) × (p.placed i ≡ true) × (k < p.size i) × (p.kind i ≡ κ) × (space_now p i ≡ s) × (x ≡ p.new i + k)

-- f 0 + .. + f (n - 1)
abbrev pub sum_to : ℕ → (ℕ → ℕ) → ℕ
sum_to zero f = 0
sum_to (suc n) f = sum_to n f + f n

-- All words of the objects of a kind that b picks.
abbrev pub weight : Places → Kind → (ℕ → Bool) → ℕ → ℕ
weight p κ b i = cond (b i && index (p.kind i) == index κ) (p.size i) 0

-- The words of all objects of a kind that b picks.
unfoldable pub words_where : Places → Kind → (ℕ → Bool) → ℕ
words_where p κ b = sum_to p.count (weight p κ b)

-- An object that was in use at the flip and has been copied.
abbrev pub is_copy : Places → ℕ → Bool
is_copy p i = p.live i && p.placed i

-- A dynamic object made since the flip.
abbrev pub is_made : Places → ℕ → Bool
is_made p i = not (p.live i) && (p.placed i && p.space i == 0)

-- An object of space s that has a place.
abbrev pub is_in : Places → ℕ → ℕ → Bool
is_in p s i = p.placed i && p.space i == s

-- Words in use: copied since the flip, made since, in static and read-only space; and at the flip.
pub record Counts (p : Places) (t : Table) : Type 0 where
  pub copies : (κ : Kind) → low t (window κ p.now) ≡ words_where p κ (is_copy p)
  pub makes : (κ : Kind) → room t (window κ p.now) - high t (window κ p.now) ≡ words_where p κ (is_made p)
  pub steadies : (κ : Kind) (s : ℕ) → 1 < s → s < 4 → low t (window κ s) ≡ words_where p κ (is_in p s)
  pub helds : (κ : Kind) → slice_index t.held (index κ) ≡ words_where p κ p.live

-- The machine shows the graph with the objects at these places; registers from r on may still point into old space.
pub record Shown (r : ℕ) (p : Places) (m : Machine) (g : Graph) : Type 0 where
  pub frame : Frame m.table
  pub map : Map p m.table
  pub memory : Holds p m.table m.words g.objects
  pub rules : Rules p m.table g.objects
  pub filled : Filled p m.table
  pub counts : Counts p m.table
  pub roots : Roots r p m.stacks g.registers g.control g.bindings
  pub edits : m.edits ≡ g.edits
  pub space : m.space ≡ g.space
  pub lawful : Lawful g
  pub sound : m.foreign ≡ None

-- How many registers there are.
abbrev pub registers_of : ℕ
registers_of = 16

-- The machine shows the graph: there are places at which its objects lie.
abbrev pub Shows : Machine → Graph → Type 0
Shows m g = (p : Places) × Shown registers_of p m g
