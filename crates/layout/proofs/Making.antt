-- (e) An object is made.
use Rattle.std.proofs.Common.{◌≡◌, ℕ, suc, ◌+◌, ◌-◌, ◌<◌, ◌≤◌, true, false, ◌≢◌, List, [], ◌∷◌, ◌++◌, length, get_or, set, sym, refl, ap, ◌∙◌, inl, inr, arith}
use Rattle.std.proofs.lemmas.List.{length_push, get_or_at, get_or_append_left}
use Rattle.std.proofs.lemmas.Bool.{cases_Bool, true≢false, ne_eqb, le-ltb}
use Rattle.words.specs.Words.{pointer_word}
use Rattle.graph.specs.Graph.{trap, plain, ref, Kind, Object, Graph, nothing, add_object}
use Rattle.graph.specs.Shape.{code, index, want, size, Shaped}
use Rattle.graph.specs.Lawful.{Lawful}
use Rattle.graph.proofs.Shape.{size-some}
use Rattle.layout.specs.Machine.{Table, Machine, Frame, windows, window, start, room, low, high, dirty, now_space, with_cursors, with_heap, Wrote}
use Rattle.layout.specs.Places.{Places, Means, Fits, Map, placing, Room, Paid}
use Rattle.layout.specs.Shows.{Steady, Shown}
use Rattle.layout.proofs.Meaning.{fits-weak, roots-map}
use Rattle.layout.proofs.Windows.{window-below, now-below, now_space-below}
use Rattle.layout.proofs.Placing.{upd_same, space-here, space-not-old, means-placed, fits-placed, map-placed, filled-placed, steady-placed}
use Rattle.layout.proofs.Placed.{Written, holds-placed, rules-placed}
use Rattle.layout.proofs.Counting.{counts-placed}
use Rattle.layout.proofs.Ends.{at-cases, room-low, room-high, frame-low, frame-high, paid-made, paid-steady}

pub dirty-same : (t : Table) (ls hs : List ℕ) (l x : ℕ) → dirty (with_cursors t ls hs t.tos) l x ≡ dirty t l x
unfolding dirty
dirty-same t ls hs l x = refl

-- an object that is not known yet has no place
module _ (p : Places) (t : Table) (q : Map p t) where
  pub new_unplaced : p.placed p.count ≡ false
  new_unplaced = elim (cases_Bool (p.placed p.count)) [ inl e ↦ absurd (let z = q.range p.count e in omega arith) | inr e ↦ e ]

  pub new-dead : p.live p.count ≡ false
  new-dead = elim (cases_Bool (p.live p.count)) [ inl e ↦ absurd (let z = q.range_old p.count e in omega arith) | inr e ↦ e ]

-- the machine shows the graph with one object more, and the word of its place means it
abbrev pub Makes : ℕ → Machine → Graph → Object → ℕ → Places → Type 0
Makes r m' g o w p' = Shown r p' m' (add_object g o) × Means p' false w (ref (length g.objects))

module _ (r : ℕ) (p : Places) (m : Machine) (g : Graph) (h : Shown r p m g) (o : Object) (sh : Shaped o) (unfrozen : o.frozen ≡ false) (law : Lawful (add_object g o))
    (known : (o.space < 4) × (o.space ≢ 1)) (closed : o.space ≡ 3 → (k : ℕ) → Steady p (get_or o.cells k (plain trap)))
    (ws : List ℕ) (x : ℕ → ℕ) (fit : (k : ℕ) → k < size o → Fits p false (x k) (want o k)) where
  abbrev t : Table
  t = m.table

  abbrev j : ℕ
  j = window o.kind (now_space p.now o.space)

  make-with : (ls hs : List ℕ) (off : ℕ) → Room p m.table ls hs p.count o.kind o.space (size o) off (suc p.count) →
      Paid p m.table ls hs p.count o.kind o.space (size o) → Frame (with_cursors m.table ls hs m.table.tos) →
      Wrote m.words ws (start m.table (window o.kind (now_space p.now o.space)) + off) (size o) x →
      Makes r (with_heap m ws (with_cursors m.table ls hs m.table.tos)) g o (pointer_word (code o.kind) (now_space p.now o.space) off)
      (placing p m.table p.count o.kind o.space (size o) off (suc p.count))
  make-with ls hs off room paid frame wrote = (
    record {
      frame = frame;
      map = map-placed p t f q ls hs t.tos i κ s n off c room;
      memory = holds-placed p t f q ls hs t.tos i κ s n off c room m.words ws g.objects (g.objects ++ o ∷ []) (start t j + off) o written h.memory;
      rules = rules-placed p t f q ls hs t.tos i κ s n off c room m.words ws g.objects (g.objects ++ o ∷ []) (start t j + off) o written h.rules;
      filled = filled-placed p t f q ls hs t.tos i κ s n off c room h.filled;
      counts = counts-placed p t f q ls hs t.tos i κ s n off c room paid h.counts;
      roots = roots-map r p p' m.stacks g.registers g.control g.bindings (means-placed p t f q ls hs t.tos i κ s n off c room) h.roots;
      edits = h.edits;
      space = h.space;
      lawful = law;
      sound = h.sound;
    },
    rw (← h.memory.count_is) (inl (upd_same p.placed i true, rw (upd_same p.kind i κ, upd_same p.space i s, upd_same p.new i off) refl)),
  )
    where
      f : Frame m.table
      f = h.frame

      q : Map p m.table
      q = h.map

      i : ℕ
      i = p.count

      κ : Kind
      κ = o.kind

      s : ℕ
      s = o.space

      n : ℕ
      n = size o

      c : ℕ
      c = suc p.count

      p' : Places
      p' = placing p t i κ s n off c

      written : Written p t ls hs t.tos m.words ws g.objects (g.objects ++ o ∷ []) i κ s n off c (start t j + off) o
      written = record {
        long = omega (arith, wrote.long);
        kept-words = λ y z d. wrote.outside y z;
        forward-tag = inr (q.gaps κ (now_space p.now s) off (space-here p t f q ls hs t.tos i κ s n off c room) (space-not-old p t f q ls hs t.tos i κ s n off c room)
            room.above (omega (arith, room.below, room.some)));
        forwards = λ u. absurd (true≢false (sym u ∙ new-dead p t q));
        dirty-more = λ l y e. dirty-same t ls hs l y ∙ e;
        content = λ k l. rw (wrote.inside k l) (fits-weak p' (dirty (with_cursors t ls hs t.tos) j (off + k)) (x k) (want o k) (fits-placed p t f q ls hs t.tos i κ s n off c room false (x k) (want o k) (fit k l)));
        many = omega (arith, h.memory.count_is, length_push g.objects o);
        mine = get_or_at g.objects o [] nothing p.count (sym h.memory.count_is);
        theirs = λ l b d. get_or_append_left g.objects (o ∷ []) nothing l (omega (arith, h.memory.count_is));
        kind-of = refl;
        space-of = refl;
        size_of = refl;
        shaped_of = sh;
        closed_of = λ e k. steady-placed p t f q ls hs t.tos i κ s n off c room (get_or o.cells k (plain trap)) (closed e k);
        frozen-of = λ e. unfrozen ∙ sym (le-ltb off (get_or t.frozen (index κ) 0) (thawed e));
      }
        where
          thawed : s ≡ 3 → get_or t.frozen (index κ) 0 ≤ off
          thawed e = let a : low t (window κ 3) ≤ off = (rw e at room.above) in omega (arith, f.frozen_below κ, a)

  unknown : p.live p.count ≡ true → (p.kind p.count ≡ o.kind) × (p.space p.count ≡ o.space) × (p.size p.count ≡ size o)
  unknown u = absurd (true≢false (sym u ∙ new-dead p m.table h.map))

  here : window o.kind (now_space p.now o.space) < windows
  here = window-below o.kind (now_space p.now o.space) (now_space-below p.now o.space (now-below p m.table h.frame h.map) known.0)

  -- at the made end of new space
  pub shows-make-dynamic : o.space ≡ 0 →
      low m.table (window o.kind (now_space p.now o.space)) + size o ≤ high m.table (window o.kind (now_space p.now o.space)) →
      Wrote m.words ws (start m.table (window o.kind (now_space p.now o.space)) + (high m.table (window o.kind (now_space p.now o.space)) - size o)) (size o) x →
      (p' : Places) × Makes r (with_heap m ws (with_cursors m.table m.table.lows
      (set m.table.highs (window o.kind (now_space p.now o.space)) (high m.table (window o.kind (now_space p.now o.space)) - size o)) m.table.tos))
      g o (pointer_word (code o.kind) (now_space p.now o.space) (high m.table (window o.kind (now_space p.now o.space)) - size o)) p'
  shows-make-dynamic z fits wrote = (
    placing p t p.count o.kind o.space (size o) (high t j - size o) (suc p.count),
    make-with t.lows (set t.highs j (high t j - size o)) (high t j - size o)
        (room-high p t h.frame h.map p.count o.kind o.space (size o) (suc p.count) (new_unplaced p t h.map) (inr (refl, refl)) unknown known (size-some o sh) fits z)
        (paid o.space z fits)
        (frame-high t h.frame j (size o) here fits) wrote,
  )
    where
      paid : (s : ℕ) → s ≡ 0 → low t (window o.kind (now_space p.now s)) + size o ≤ high t (window o.kind (now_space p.now s)) →
          Paid p t t.lows (set t.highs (window o.kind (now_space p.now s)) (high t (window o.kind (now_space p.now s)) - size o)) p.count o.kind s (size o)
      paid s e l = rw e (paid-made p t h.frame h.map p.count o.kind (size o) (new-dead p t h.map) (rw e at l))

  -- at the end of static or read-only space
  pub shows-make-steady : 1 < o.space →
      low m.table (window o.kind (now_space p.now o.space)) + size o ≤ high m.table (window o.kind (now_space p.now o.space)) →
      Wrote m.words ws (start m.table (window o.kind (now_space p.now o.space)) + low m.table (window o.kind (now_space p.now o.space))) (size o) x →
      (p' : Places) × Makes r (with_heap m ws (with_cursors m.table
      (set m.table.lows (window o.kind (now_space p.now o.space)) (low m.table (window o.kind (now_space p.now o.space)) + size o)) m.table.highs m.table.tos))
      g o (pointer_word (code o.kind) (now_space p.now o.space) (low m.table (window o.kind (now_space p.now o.space)))) p'
  shows-make-steady z fits wrote = (
    placing p t p.count o.kind o.space (size o) (low t j) (suc p.count),
    make-with (set t.lows j (low t j + size o)) t.highs (low t j)
        (room-low p t h.frame h.map p.count o.kind o.space (size o) (suc p.count) (new_unplaced p t h.map) (inr (refl, refl)) unknown known (size-some o sh) fits)
        (rw (ne_eqb o.space 0 (λ e. omega (arith, z, e))) (paid-steady p t h.frame h.map p.count o.kind (size o) (new-dead p t h.map) o.space z known.0))
        (frame-low t h.frame j (size o) here fits t.tos h.frame.tos_long below) wrote,
  )
    where
      below : (l : ℕ) → l < windows → get_or t.tos l 0 ≤ get_or (set t.lows j (low t j + size o)) l 0
      below l b = elim (at-cases t.lows j (low t j + size o) l (omega (arith, here, h.frame.lows_long))) [
        | inl e ↦ (let y = h.frame.clean_above l b in let v : low t l ≡ low t j = ap (low t) e.0 in omega (arith, e.1, y, v))
        | inr e ↦ omega (arith, e.1, h.frame.clean_above l b)
      ]
