-- What the barrier's guards find: a word passes exactly if it is no pointer into old space.
use Rattle.std.proofs.Common.{◌≡◌, ℕ, ◌<◌, ◌≤◌, Bool, true, false, ltb, ◌≢◌, ◌⊎◌, [], ◌∷◌, ◌++◌, length, sym, refl, ap, ◌∙◌, inl, inr, arith}
use Rattle.words.specs.Words.{type_of, space_of, pointer_of, pointer_word}
use Rattle.graph.specs.Graph.{Value, plain, ref, Graph}
use Rattle.graph.specs.Shape.{code}
use Rattle.layout.specs.Machine.{Table, Machine, Frame, old_space, word_at}
use Rattle.layout.specs.Places.{Places, old_word, old_address, Means, Map}
use Rattle.layout.specs.Shows.{Shown}
use Rattle.layout.proofs.Meaning.{row-push, means-weak}
use Rattle.layout.proofs.Windows.{space-new}
use Rattle.layout.proofs.Reading.{leads}
use Rattle.layout.proofs.Same.{immediate-low}
use Rattle.layout.proofs.Barrier.{old-leads, shows-moved}

-- it passes: immediate, or to new, static or read-only space
abbrev pub Passes : Places → ℕ → Type 0
Passes p w = (type_of w ≤ 1) ⊎ (space_of w ≢ old_space p.now)

module _ (p : Places) (t : Table) (f : Frame t) (q : Map p t) where
  pub clean-passes : (w : ℕ) (v : Value) → Means p false w v → Passes p w
  clean-passes w (plain x) h = inl (let a = immediate-low x h.1 in let b = ap type_of h.0 in omega (arith, a, b))
  clean-passes w (ref i) h = let l = leads p t f q w i h in inr (λ e. space-new p t f q i (q.range i (placed_of h)) (sym l.space_is ∙ e))
    where
      placed_of : Means p false w (ref i) → p.placed i ≡ true
      placed_of (inl a) = a.0
      placed_of (inr a) = absurd (let c = a.0 in let z : ◌≡◌ {A = ℕ} 0 1 = cc in omega arith)

  -- a word that may be old is clean, or an old pointer that does not pass
  pub barrier-cases : (d : Bool) (w : ℕ) (v : Value) → Means p d w v → Means p false w v ⊎ ((i : ℕ) × (v ≡ ref i) × (p.live i ≡ true) × (w ≡ old_word p i))
  barrier-cases d w (plain x) h = inl h
  barrier-cases d w (ref i) (inl h) = inl (inl h)
  barrier-cases d w (ref i) (inr h) = inr (i, refl, h.1, h.2)

  pub old-stops : (i : ℕ) → p.live i ≡ true → 1 < code (p.kind i) → Passes p (old_word p i) → ⊥
  old-stops i u c (inl l) = let a = old-leads p t f q i u in omega (arith, a.0, c, l)
  old-stops i u c (inr l) = l (old-leads p t f q i u).1

-- the old pointer of an object that has moved: the forward gives its clean word
pub forwarded-means : (r : ℕ) (p : Places) (m : Machine) (g : Graph) → Shown r p m g → (i : ℕ) → p.live i ≡ true → p.placed i ≡ true →
    Means p false (pointer_word (code (p.kind i)) (space_of (word_at m (old_address m.table p i))) (pointer_of (word_at m (old_address m.table p i)))) (ref i)
forwarded-means r p m g h i u c = inl (c, (shows-moved r p m g h i u c).1)

-- stacks
abbrev pub push_control : Machine → ℕ → Machine
push_control m w = record {
  words = m.words;
  table = m.table;
  edits = m.edits;
  space = m.space;
  foreign = m.foreign;
  stacks = record { registers = m.stacks.registers; control = m.stacks.control ++ w ∷ []; bindings = m.stacks.bindings; control_dirty = m.stacks.control_dirty; bindings_dirty = m.stacks.bindings_dirty };
}

abbrev pub push_value : Graph → Value → Graph
push_value g v = record { objects = g.objects; registers = g.registers; control = g.control ++ v ∷ []; bindings = g.bindings; edits = g.edits; space = g.space }

pub shows-push : (r : ℕ) (p : Places) (m : Machine) (g : Graph) → Shown r p m g → (w : ℕ) (v : Value) → Means p false w v → Shown r p (push_control m w) (push_value g v)
shows-push r p m g s w v h = record {
  frame = s.frame;
  map = s.map;
  memory = s.memory;
  rules = s.rules;
  filled = s.filled;
  counts = s.counts;
  edits = s.edits;
  space = s.space;
  lawful = record {
    cells_known = s.lawful.cells_known;
    cells_typed = s.lawful.cells_typed;
    registers_long = s.lawful.registers_long;
    registers_known = s.lawful.registers_known;
    registers_set = s.lawful.registers_set;
    space_known = s.lawful.space_known;
  };
  sound = s.sound;
  roots = record {
    registers = s.roots.registers;
    bindings = s.roots.bindings;
    control = row-push p (λ k. ltb k m.stacks.control_dirty) m.stacks.control g.control s.roots.control w v (means-weak p (ltb (length g.control) m.stacks.control_dirty) w v h);
  };
}
