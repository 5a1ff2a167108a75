-- Meanings of words, and rows of them.
use Rattle.std.proofs.Common.{◌≡◌, ℕ, ◌+◌, ◌<◌, ◌≤◌, Bool, true, false, ltb, leb, List, [], ◌∷◌, ◌++◌, length, get_or, take, set, sym, refl, ◌∙◌, inl, inr, arith}
use Rattle.std.proofs.lemmas.List.{length-set, length-append, length-take-le, get_or-set_same, get_or-set_other, get_or_append_left, get_or_at, get_or-take}
use Rattle.std.proofs.lemmas.Bool.{cases_eq, false≢true, lt-leb}
use Rattle.graph.specs.Graph.{trap, Value, plain, ref, Object, Graph, Binding, put_register}
use Rattle.graph.specs.Shape.{Want, exact, value}
use Rattle.graph.specs.Lawful.{class_of, Known}
use Rattle.graph.proofs.Lawful.{lawful-register}
use Rattle.kinds.specs.Kinds.{is_unset}
use Rattle.layout.specs.Machine.{Table, Stacks, Machine, with_register}
use Rattle.layout.specs.Places.{Places, new_word, Means, Fits, Map}
use Rattle.layout.specs.Shows.{Holds, Row, Roots, Shown}

-- a word that may be old may also be new
pub means-more : (p : Places) (d e : Bool) → (d ≡ true → e ≡ true) → (w : ℕ) (v : Value) → Means p d w v → Means p e w v
means-more p d e f w (plain x) h = h
means-more p d e f w (ref i) (inl h) = inl h
means-more p d e f w (ref i) (inr h) = inr (f h.0, h.1, h.2)

pub means-weak : (p : Places) (d : Bool) (w : ℕ) (v : Value) → Means p false w v → Means p d w v
means-weak p d w v = means-more p false d (λ e. absurd (false≢true e)) w v

pub fits_more : (p : Places) (d e : Bool) → (d ≡ true → e ≡ true) → (w : ℕ) (v : Want) → Fits p d w v → Fits p e w v
fits_more p d e f w (exact x) h = h
fits_more p d e f w (value v) h = means-more p d e f w v h

pub fits-weak : (p : Places) (d : Bool) (w : ℕ) (v : Want) → Fits p false w v → Fits p d w v
fits-weak p d w v = fits_more p false d (λ e. absurd (false≢true e)) w v

-- a clean reference
pub means-ref : (p : Places) (w i : ℕ) → Means p false w (ref i) → (p.placed i ≡ true) × (w ≡ new_word p i)
means-ref p w i (inl h) = h
means-ref p w i (inr h) = absurd (false≢true h.0)

-- rows
pub row-set : (p : Places) (d : ℕ → Bool) (ws : List ℕ) (vs : List Value) → Row p d ws vs → (r w : ℕ) (v : Value) → Means p (d r) w v → Row p d (set ws r w) (set vs r v)
row-set p d ws vs q r w v h = record {
  long = length-set ws r w ∙ q.long ∙ sym (length-set vs r v);
  means = λ k l. let n : k < length vs = rw (length-set vs r v) at l in
      elim (cases_eq k r) [
        | inl e ↦ rw (e, get_or-set_same ws r w 0 (omega (arith, q.long)), get_or-set_same vs r v (plain trap) (omega arith)) h
        | inr u ↦ rw (get_or-set_other ws r k w 0 u, get_or-set_other vs r k v (plain trap) u) (q.means k n)
      ];
}

pub row-push : (p : Places) (d : ℕ → Bool) (ws : List ℕ) (vs : List Value) → Row p d ws vs → (w : ℕ) (v : Value) → Means p (d (length vs)) w v → Row p d (ws ++ w ∷ []) (vs ++ v ∷ [])
row-push p d ws vs q w v h = record {
  long = simp length-append (omega (arith, q.long));
  means = λ k l. let n : k < length vs + 1 = simp length-append at l in
      elim (cases_eq k (length vs)) [
        | inl e ↦ rw (e, get_or_at ws w [] 0 (length vs) q.long, get_or_at vs v [] (plain trap) (length vs) refl) h
        | inr u ↦ let b : k < length vs = omega arith in
            rw (get_or_append_left ws (w ∷ []) 0 k (omega (arith, q.long)), get_or_append_left vs (v ∷ []) (plain trap) k b) (q.means k b)
      ];
}

pub row-take : (p : Places) (d : ℕ → Bool) (ws : List ℕ) (vs : List Value) → Row p d ws vs → (n : ℕ) → n ≤ length vs → Row p d (take n ws) (take n vs)
row-take p d ws vs q n b = record {
  long = length-take-le n ws (omega (arith, q.long)) ∙ sym (length-take-le n vs b);
  means = λ k l. let z = length-take-le n vs b in let u : k < n = omega arith in
      rw (get_or-take n ws k 0 u, get_or-take n vs k (plain trap) u) (q.means k (omega arith));
}

-- the same row by other places or other marks
pub row-map : (p p' : Places) (d d' : ℕ → Bool) (ws : List ℕ) (vs : List Value) → ((k w : ℕ) (v : Value) → Means p (d k) w v → Means p' (d' k) w v) → Row p d ws vs → Row p' d' ws vs
row-map p p' d d' ws vs f q = record { long = q.long; means = λ k l. f k (get_or ws k 0) (get_or vs k (plain trap)) (q.means k l) }

-- all roots by other places
pub roots-map : (r : ℕ) (p p' : Places) (s : Stacks) (rs cs : List Value) (bs : List Binding) → ((d : Bool) (w : ℕ) (v : Value) → Means p d w v → Means p' d w v) → Roots r p s rs cs bs → Roots r p' s rs cs bs
roots-map r p p' s rs cs bs f q = record {
  registers = row-map p p' _ _ _ _ (λ k. f (leb r k)) q.registers;
  control = row-map p p' _ _ _ _ (λ k. f (ltb k s.control_dirty)) q.control;
  bindings = row-map p p' _ _ _ _ (λ k. f (ltb k s.bindings_dirty)) q.bindings;
}

-- a word means nothing but objects that were made
pub means-known : (p : Places) (t : Table) (ws : List ℕ) (os : List Object) → Map p t → Holds p t ws os → (d : Bool) (w : ℕ) (v : Value) → Means p d w v → Known os v
means-known p t ws os q h d w (plain x) e = tt
means-known p t ws os q h d w (ref i) (inl e) = omega (arith, q.range i e.0, h.count_is)
means-known p t ws os q h d w (ref i) (inr e) = omega (arith, q.range_old i e.1, h.count_is)

-- (b) a register is set
pub shows-put : (r : ℕ) (p : Places) (m : Machine) (g : Graph) → Shown r p m g → (k w : ℕ) (v : Value) → Means p false w v → is_unset (class_of g.objects v) ≡ false → Shown r p (with_register m k w) (put_register g k v)
shows-put r p m g s k w v h st = record {
  frame = s.frame;
  map = s.map;
  filled = s.filled;
  counts = s.counts;
  memory = s.memory;
  rules = s.rules;
  edits = s.edits;
  space = s.space;
  lawful = lawful-register g s.lawful k v (means-known p m.table m.words g.objects s.map s.memory false w v h) st;
  sound = s.sound;
  roots = record {
    registers = row-set p (λ k. leb r k) m.stacks.registers g.registers s.roots.registers k w v (means-weak p (leb r k) w v h);
    control = s.roots.control;
    bindings = s.roots.bindings;
  };
}

-- what a register means is clean
pub shows-register : (r : ℕ) (p : Places) (m : Machine) (g : Graph) → Shown r p m g → (k : ℕ) → k < r → k < length g.registers →
    Means p false (get_or m.stacks.registers k 0) (get_or g.registers k (plain trap))
shows-register r p m g s k l n = rw (lt-leb r k l) at (s.roots.registers.means k n)
