-- Words are cleaned: registers after the flip, stacks from the top down, windows from the low end up. And a copy finds room.
use Rattle.std.proofs.Common.{◌≡◌, ℕ, zero, suc, ◌+◌, ◌-◌, ◌<◌, ◌≤◌, Bool, true, false, ◌&&◌, ltb, leb, ◌≢◌, List, get_or, set, refl, ap, ◌∙◌, inl, inr, arith}
use Rattle.std.proofs.lemmas.List.{length-set, get_or-set_same, get_or-set_other}
use Rattle.std.proofs.lemmas.Bool.{cases_eq, cases_Bool, eq-eqb}
use Rattle.std.proofs.lemmas.Bool.Decides.{nat_tests}
use Rattle.graph.specs.Graph.{trap, Value, plain, Kind, Graph, object}
use Rattle.graph.specs.Shape.{index, want}
use Rattle.layout.specs.Machine.{Table, Machine, Frame, windows, window, start, room, low, high, dirty, with_heap, with_froms, with_register, word_at}
use Rattle.layout.specs.Places.{Places, new_window, new_address, Means, Fits, Map}
use Rattle.layout.specs.Shows.{Holds, Row, sum_to, weight, words_where, is_copy, Shown}
use Rattle.layout.proofs.Meaning.{means-more, means-weak, fits_more, fits-weak}
use Rattle.layout.proofs.Windows.{new-below}
use Rattle.layout.proofs.Ends.{at-cases}

-- one word of a row is cleaned, and the marks say no more than that
pub row-clean : (p : Places) (d e : ℕ → Bool) (ws : List ℕ) (vs : List Value) → Row p d ws vs → (k w : ℕ) → Means p false w (get_or vs k (plain trap)) → ((j : ℕ) → j ≢ k → d j ≡ true → e j ≡ true) → Row p e (set ws k w) vs
row-clean p d e ws vs h k w m f = record {
  long = length-set ws k w ∙ h.long;
  means = λ j l. elim (cases_eq j k) [
    | inl z ↦ rw (z, get_or-set_same ws k w 0 (omega (arith, z, l, h.long))) (means-weak p (e k) w (get_or vs k (plain trap)) m)
    | inr z ↦ rw (get_or-set_other ws k j w 0 z) (means-more p (d j) (e j) (f j z) (get_or ws j 0) (get_or vs j (plain trap)) (h.means j l))
  ];
}

next-register : (k j : ℕ) → j ≢ k → leb k j ≡ true → leb (suc k) j ≡ true
next-register k j d h = grind (arith, nat_tests)

pub next-stack : (k j : ℕ) → j ≢ k → ltb j (suc k) ≡ true → ltb j k ≡ true
next-stack k j d h = grind (arith, nat_tests)

-- after the flip the registers are moved one after another
pub shows-advance : (k : ℕ) (p : Places) (m : Machine) (g : Graph) → Shown k p m g → (w : ℕ) → Means p false w (get_or g.registers k (plain trap)) → Shown (suc k) p (with_register m k w) g
shows-advance k p m g s w h = record {
  frame = s.frame;
  map = s.map;
  memory = s.memory;
  rules = s.rules;
  filled = s.filled;
  counts = s.counts;
  edits = s.edits;
  space = s.space;
  lawful = s.lawful;
  sound = s.sound;
  roots = record {
    control = s.roots.control;
    bindings = s.roots.bindings;
    registers = row-clean p (λ j. leb k j) (λ j. leb (suc k) j) m.stacks.registers g.registers s.roots.registers k w h (next-register k);
  };
}

-- a place of a window is passed over
from_more : (a x y b : ℕ) → y ≢ x → a ≡ x → (leb a y && ltb y b) ≡ true → (leb (suc x) y && ltb y b) ≡ true
from_more a x y b d e h = grind (arith, nat_tests)

module _ (t : Table) (f : Frame t) (l x : ℕ) (b : l < windows) (at_from : get_or t.froms l 0 ≡ x) where
  dirty-less : (j y : ℕ) → (j ≡ l → y ≢ x) → dirty t j y ≡ true → dirty (with_froms t (set t.froms l (suc x))) j y ≡ true
  unfolding dirty
  dirty-less j y d h = elim (at-cases t.froms l (suc x) j (omega (arith, b, f.froms_long))) [
    | inl e ↦ rw e.1 (from_more (get_or t.froms j 0) x y (get_or t.tos j 0) (d e.0) (ap (λ k. get_or t.froms k 0) e.0 ∙ at_from) h)
    | inr e ↦ rw e.1 h
  ]

-- one dirty word of a window is cleaned: it may be, since it is no old pointer now
module _ (r : ℕ) (p : Places) (m : Machine) (g : Graph) (h : Shown r p m g) (i k : ℕ) (u : p.placed i ≡ true) (l : k < p.size i)
    (at_from : get_or m.table.froms (new_window p i) 0 ≡ p.new i + k) (dirt : p.new i + k < get_or m.table.tos (new_window p i) 0)
    (fit : Fits p false (word_at m (new_address m.table p i + k)) (want (object g i) k)) where
  pub shows-clean : Shown r p (with_heap m m.words (with_froms m.table (set m.table.froms (new_window p i) (suc (p.new i + k))))) g
  shows-clean = record {
    frame = record {
      lows_long = f.lows_long;
      highs_long = f.highs_long;
      tos_long = f.tos_long;
      froms_long = length-set t.froms j (suc x) ∙ f.froms_long;
      rising = f.rising;
      narrow = f.narrow;
      twins = f.twins;
      apart = f.apart;
      within = f.within;
      clean_above = f.clean_above;
      frozen_below = f.frozen_below;
      which = f.which;
      scanned_below = λ n b. elim (at-cases t.froms j (suc x) n (omega (arith, jb, f.froms_long))) [
        | inl e ↦ (let y = f.clean_above j jb in let z : low t n ≡ low t j = ap (low t) e.0 in omega (arith, e.1, y, z, dirt))
        | inr e ↦ (let y = f.scanned_below n b in omega (arith, e.1, y))
      ];
    };
    map = record {
      now_is = q.now_is;
      range = q.range;
      range_old = q.range_old;
      spaces = q.spaces;
      some = q.some;
      dynamic_old = q.dynamic_old;
      inside = q.inside;
      inside_old = q.inside_old;
      tagged = q.tagged;
      tagged_old = q.tagged_old;
      back = q.back;
      steady_low = q.steady_low;
      in_use = q.in_use;
      gaps = q.gaps;
    };
    memory = record { count_is = o.count_is; kind_is = o.kind_is; space_is = o.space_is; size_is = o.size_is; long = o.long; holds_old = o.holds_old; forward = o.forward; holds = holds' };
    rules = record { steady = h.rules.steady; closed = h.rules.closed; frozen_is = h.rules.frozen_is; shaped = h.rules.shaped };
    filled = record { filled = h.filled.filled };
    counts = record { copies = h.counts.copies; makes = h.counts.makes; steadies = h.counts.steadies; helds = h.counts.helds };
    roots = h.roots;
    edits = h.edits;
    space = h.space;
    lawful = h.lawful;
    sound = h.sound;
  }
    where
      t : Table
      t = m.table

      f : Frame m.table
      f = h.frame

      q : Map p m.table
      q = h.map

      o : Holds p m.table m.words g.objects
      o = h.memory

      j : ℕ
      j = new_window p i

      x : ℕ
      x = p.new i + k

      jb : new_window p i < windows
      jb = new-below p t f q i u

      t' : Table
      t' = with_froms m.table (set m.table.froms (new_window p i) (suc (p.new i + k)))

      holds' : (a b : ℕ) → p.placed a ≡ true → b < p.size a → Fits p (dirty t' (new_window p a) (p.new a + b)) (word_at m (new_address t p a + b)) (want (object g a) b)
      holds' a b v n =
          elim (cases_eq (new_address t p a + b) (new_address t p i + k)) [
            | inl e ↦
                let y = q.tagged a b v n in
                let z = q.tagged i k u l in
                let ea : a ≡ i = cc in
                let eb : b ≡ k = cc in
                rw (ea, eb) (fits-weak p (dirty t' j x) (word_at m (new_address t p i + k)) (want (object g i) k) fit)
            | inr d ↦ fits_more p (dirty t (new_window p a) (p.new a + b)) (dirty t' (new_window p a) (p.new a + b))
                (dirty-less t f j x jb at_from (new_window p a) (p.new a + b) (λ e y. d (let z = ap (start t) e in omega (arith, y, z))))
                (word_at m (new_address t p a + b)) (want (object g a) b) (o.holds a b v n)
          ]

-- what was in use at the flip pays for the copies
sum_to-pay : (n : ℕ) (a b : ℕ → ℕ) (i z : ℕ) → i < n → ((j : ℕ) → a j ≤ b j) → a i + z ≤ b i → sum_to n a + z ≤ sum_to n b
sum_to-pay zero a b i z l h e = absurd (omega arith)
sum_to-pay (suc n) a b i z l h e = elim (cases_eq i n) [
  | inl y ↦ (let c = sum_to-le n in let v = ap a y in let w = ap b y in omega (arith, c, v, w, e))
  | inr y ↦ (let c = sum_to-pay n a b i z (omega arith) h e in let v = h n in omega (arith, c, v))
]
  where
    sum_to-le : (k : ℕ) → sum_to k a ≤ sum_to k b
    sum_to-le zero = omega arith
    sum_to-le (suc k) = let c = sum_to-le k in let v = h k in omega (arith, c, v)

module _ (r : ℕ) (p : Places) (m : Machine) (g : Graph) (h : Shown r p m g) (i : ℕ) (u : p.live i ≡ true) (c : p.placed i ≡ false) where
  pub copies-paid : low m.table (window (p.kind i) p.now) + p.size i ≤ get_or m.table.held (index (p.kind i)) 0
  unfolding words_where
  copies-paid =
      let κ : Kind = p.kind i in
      let a = h.counts.copies κ in
      let b = h.counts.helds κ in
      let z = sum_to-pay p.count (weight p κ (is_copy p)) (weight p κ p.live) i (p.size i) (h.map.range_old i u) each own in
      omega (arith, a, b, z)
    where
      each : (j : ℕ) → weight p (p.kind i) (is_copy p) j ≤ weight p (p.kind i) p.live j
      each j = elim (cases_Bool (p.live j)) [
        | inl v ↦ elim (cases_Bool (p.placed j)) [ inl w ↦ rw (v, w) (omega arith) | inr w ↦ rw (v, w) (omega arith) ]
        | inr v ↦ rw v (omega arith)
      ]

      own : weight p (p.kind i) (is_copy p) i + p.size i ≤ weight p (p.kind i) p.live i
      own = rw (u, c, eq-eqb (index (p.kind i)) (index (p.kind i)) refl) (omega arith)

  -- while words in use at the flip and made since fit the window, a copy finds its place
  pub copy-fits : get_or m.table.held (index (p.kind i)) 0 + (room m.table (window (p.kind i) p.now) - high m.table (window (p.kind i) p.now)) ≤ room m.table (window (p.kind i) p.now) →
      low m.table (window (p.kind i) p.now) + p.size i ≤ high m.table (window (p.kind i) p.now)
  copy-fits e = let a = copies-paid in omega (arith, a, e)
