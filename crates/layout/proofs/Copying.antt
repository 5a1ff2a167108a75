-- (f) An object is copied to the low end of new space, and a forward is left: the same graph is shown.
use Rattle.std.proofs.Common.{◌≡◌, ℕ, ◌+◌, ◌<◌, ◌≤◌, Bool, true, false, cond, ◌&&◌, ltb, leb, ◌≢◌, ◌⊎◌, List, length, get_or, set, sym, refl, ap, ◌∙◌, inl, inr, arith}
use Rattle.std.proofs.lemmas.List.{length-set, get_or-set_same, get_or-set_other}
use Rattle.std.proofs.lemmas.Bool.{cases_Bool}
use Rattle.std.proofs.lemmas.Bool.Decides.{nat_tests}
use Rattle.words.specs.Words.{pointer_word, forward_word}
use Rattle.graph.specs.Graph.{ref, Kind, Object, Graph, object}
use Rattle.graph.specs.Shape.{code, boxed, Want, exact, value, want}
use Rattle.graph.proofs.Shape.{want-exact}
use Rattle.layout.specs.Machine.{Table, Machine, Frame, windows, window, start, low, high, dirty, with_cursors, with_heap, Wrote}
use Rattle.layout.specs.Places.{past, Places, Means, Fits, Map, old_address, placing, Room}
use Rattle.layout.specs.Shows.{Shown}
use Rattle.layout.proofs.Meaning.{roots-map}
use Rattle.layout.proofs.Windows.{window-below, now-below, old-in}
use Rattle.layout.proofs.Placing.{upd_same, means-placed, fits-placed, map-placed, filled-placed, outside, past-no-gap}
use Rattle.layout.proofs.Placed.{Written, holds-placed, rules-placed}
use Rattle.layout.proofs.Counting.{counts-placed}
use Rattle.layout.proofs.Ends.{at-cases, at_same, room-low, frame-low, paid-copy}

-- the words of a boxed copy are dirty
abbrev pub tos-copied : Table → Kind → ℕ → ℕ → List ℕ
tos-copied t κ j x = cond (boxed κ) (set t.tos j x) t.tos

range-more : (a x b c : ℕ) → b ≤ c → (leb a x && ltb x b) ≡ true → (leb a x && ltb x c) ≡ true
range-more a x b c l h = grind (arith, nat_tests)

range-in : (a x b : ℕ) → a ≤ x → x < b → (leb a x && ltb x b) ≡ true
range-in a x b l m = grind (arith, nat_tests)

-- the marks afterwards
module _ (t : Table) (f : Frame t) (κ : Kind) (j n : ℕ) (b : j < windows) where
  abbrev ls : List ℕ
  ls = set t.lows j (low t j + n)

  abbrev ds : List ℕ
  ds = tos-copied t κ j (low t j + n)

  tos-cases : (l : ℕ) → ((boxed κ ≡ true) × (l ≡ j) × (get_or ds l 0 ≡ low t j + n)) ⊎ (get_or ds l 0 ≡ get_or t.tos l 0)
  tos-cases l = elim (cases_Bool (boxed κ)) [
    | inl e ↦ rw e (elim (at-cases t.tos j (low t j + n) l (omega (arith, f.tos_long))) [ inl y ↦ inl (refl, y.0, y.1) | inr y ↦ inr y.1 ])
    | inr e ↦ rw e (inr refl)
  ]

  tos-length : length (tos-copied t κ j (low t j + n)) ≡ windows
  tos-length = elim (cases_Bool (boxed κ)) [ inl e ↦ rw e (length-set t.tos j (low t j + n) ∙ f.tos_long) | inr e ↦ rw e f.tos_long ]

  tos-below : (l : ℕ) → l < windows → get_or (tos-copied t κ j (low t j + n)) l 0 ≤ get_or (set t.lows j (low t j + n)) l 0
  tos-below l m =
      let bl : j < length t.lows = omega (arith, f.lows_long) in
      elim (tos-cases l) [
        | inl y ↦ (let z = at_same t.lows j (low t j + n) bl in let v : get_or ls l 0 ≡ get_or ls j 0 = ap (λ k. get_or ls k 0) y.1 in omega (arith, y.2, z, v))
        | inr y ↦ elim (at-cases t.lows j (low t j + n) l bl) [
          | inl e ↦ (let z = f.clean_above l m in let v : low t l ≡ low t j = ap (low t) e.0 in omega (arith, e.1, y, z, v))
          | inr e ↦ (let z = f.clean_above l m in omega (arith, e.1, y, z))
        ]
      ]

  dirty-more : (l x : ℕ) → dirty t l x ≡ true → dirty (with_cursors t ls t.highs ds) l x ≡ true
  unfolding dirty
  dirty-more l x h = elim (tos-cases l) [
    | inl y ↦ (let z = f.clean_above j b in let v : get_or t.tos l 0 ≡ get_or t.tos j 0 = ap (λ k. get_or t.tos k 0) y.1 in
        range-more (get_or t.froms l 0) x (get_or t.tos l 0) (get_or ds l 0) (omega (arith, y.2, z, v)) h)
    | inr y ↦ range-more (get_or t.froms l 0) x (get_or t.tos l 0) (get_or ds l 0) (omega (arith, y)) h
  ]

  dirty-copy : boxed κ ≡ true → (k : ℕ) → k < n → dirty (with_cursors t ls t.highs ds) j (low t j + k) ≡ true
  unfolding dirty
  dirty-copy e k l = rw e (rw (at_same t.tos j (low t j + n) (omega (arith, f.tos_long))) (range-in (get_or t.froms j 0) (low t j + k) (low t j + n) (omega (arith, f.scanned_below j b)) (omega arith)))

-- a word that has to be exactly this one may stand anywhere
fits-exact : (p : Places) (d e : Bool) (w : ℕ) (v : Want) → (x : ℕ) × (v ≡ exact x) → Fits p d w v → Fits p e w v
fits-exact p d e w (exact y) z h = h
fits-exact p d e w (value y) z h = let c = z.1 in let u : ◌≡◌ {A = ℕ} 0 1 = cc in absurd (omega arith)

module _ (r : ℕ) (p : Places) (m : Machine) (g : Graph) (h : Shown r p m g) (i : ℕ) (live : p.live i ≡ true) (unplaced : p.placed i ≡ false)
    (fits : low m.table (window (p.kind i) p.now) + p.size i ≤ high m.table (window (p.kind i) p.now))
    (ws : List ℕ) (wrote : Wrote m.words ws (start m.table (window (p.kind i) p.now) + low m.table (window (p.kind i) p.now)) (p.size i) (λ k. get_or m.words (old_address m.table p i + k) 0)) where
  pub shows-copy : (p' : Places) × Shown r p'
      (with_heap m (set ws (old_address m.table p i) (forward_word p.now (low m.table (window (p.kind i) p.now))))
      (with_cursors m.table (set m.table.lows (window (p.kind i) p.now) (low m.table (window (p.kind i) p.now) + p.size i)) m.table.highs
      (tos-copied m.table (p.kind i) (window (p.kind i) p.now) (low m.table (window (p.kind i) p.now) + p.size i)))) g
      × Means p' false (pointer_word (code (p.kind i)) p.now (low m.table (window (p.kind i) p.now))) (ref i)
  shows-copy = (
    p',
    record {
      frame = frame-low t f j n jb fits ds (tos-length t f κ j n jb) (tos-below t f κ j n jb);
      map = map-placed p t f q ls hs ds i κ 0 n off c room;
      memory = holds-placed p t f q ls hs ds i κ 0 n off c room m.words ws' g.objects g.objects fw o written h.memory;
      rules = rules-placed p t f q ls hs ds i κ 0 n off c room m.words ws' g.objects g.objects fw o written h.rules;
      filled = filled-placed p t f q ls hs ds i κ 0 n off c room h.filled;
      counts = counts-placed p t f q ls hs ds i κ 0 n off c room (paid-copy p t f q i κ n live) h.counts;
      roots = roots-map r p p' m.stacks g.registers g.control g.bindings (means-placed p t f q ls hs ds i κ 0 n off c room) h.roots;
      edits = h.edits;
      space = h.space;
      lawful = h.lawful;
      sound = h.sound;
    },
    inl (upd_same p.placed i true, rw (upd_same p.kind i κ, upd_same p.space i 0, upd_same p.new i off) refl),
  )
    where
      t : Table
      t = m.table

      f : Frame m.table
      f = h.frame

      q : Map p m.table
      q = h.map

      κ : Kind
      κ = p.kind i

      n : ℕ
      n = p.size i

      c : ℕ
      c = p.count

      o : Object
      o = object g i

      j : ℕ
      j = window (p.kind i) p.now

      off : ℕ
      off = low m.table (window (p.kind i) p.now)

      ls : List ℕ
      ls = set t.lows j (low t j + n)

      hs : List ℕ
      hs = t.highs

      ds : List ℕ
      ds = tos-copied t κ j (low t j + n)

      fw : ℕ
      fw = old_address m.table p i

      ws' : List ℕ
      ws' = set ws (old_address m.table p i) (forward_word p.now off)

      p' : Places
      p' = placing p t i κ 0 n off c

      known : i < p.count
      known = q.range_old i live

      jb : window (p.kind i) p.now < windows
      jb = window-below κ p.now (omega (arith, now-below p t f q))

      room : Room p m.table ls hs i κ 0 n off c
      room = room-low p t f q i κ 0 n c unplaced (inl (known, refl)) (λ u. (refl, q.dynamic_old i live, refl)) (omega arith, λ z. omega (arith, z)) (q.some i known) fits

      fw-tag : p.tag (old_address m.table p i) ≡ past i 0
      fw-tag = let z : old_address m.table p i + 0 ≡ old_address m.table p i = omega arith in rw z at (q.tagged_old i 0 live (q.some i known))

      -- the place of the copy is a gap, and so is not the old place
      apart : (k : ℕ) → k < n → start t j + off + k ≢ old_address m.table p i
      apart k l e = elim (outside p t f q ls hs ds i κ 0 n off c room (old_address m.table p i) (past-no-gap p t f q ls hs ds i κ 0 n off c room i 0 (old_address m.table p i) fw-tag)) [
        | inl z ↦ omega (arith, z, e, l)
        | inr z ↦ omega (arith, z, e, l)
      ]

      written : Written p t ls hs ds m.words ws' g.objects g.objects i κ 0 n off c fw o
      written = record {
        long = omega (arith, wrote.long, length-set ws (old_address m.table p i) (forward_word p.now off));
        kept-words = λ x z d. get_or-set_other ws (old_address m.table p i) x (forward_word p.now off) 0 d ∙ wrote.outside x z;
        forward-tag = inl fw-tag;
        forwards = λ u. get_or-set_same ws (old_address m.table p i) (forward_word p.now off) 0
            (let z = old-in p t f q i 0 (length m.words) live (q.some i known) h.memory.long in omega (arith, z, wrote.long));
        dirty-more = dirty-more t f κ j n jb;
        content = content';
        many = h.memory.count_is;
        mine = refl;
        theirs = λ l b d. refl;
        kind-of = h.memory.kind_is i known;
        space-of = sym (q.dynamic_old i live) ∙ h.memory.space_is i known;
        size_of = h.memory.size_is i known;
        shaped_of = h.rules.shaped i known;
        closed_of = λ e. absurd (omega (arith, e));
        frozen-of = λ e. absurd (omega (arith, e));
      }
        where
          content' : (k : ℕ) → k < n → Fits p' (dirty (with_cursors t ls hs ds) j (off + k)) (get_or ws' (start t j + off + k) 0) (want o k)
          content' k l =
              rw (get_or-set_other ws (old_address m.table p i) (start t j + off + k) (forward_word p.now off) 0 (apart k l), wrote.inside k l)
              (let fit : Fits p' true (get_or m.words (old_address m.table p i + k) 0) (want o k) =
              fits-placed p t f q ls hs ds i κ 0 n off c room true (get_or m.words (old_address m.table p i + k) 0) (want o k) (h.memory.holds_old i k live unplaced l) in
              elim (cases_Bool (boxed κ)) [
                | inl e ↦ rw (dirty-copy t f κ j n jb e k l) fit
                | inr e ↦ fits-exact p' true (dirty (with_cursors t ls hs ds) j (off + k)) (get_or m.words (old_address m.table p i + k) 0) (want o k)
                    (want-exact o k (rw (h.memory.kind_is i known) at e)) fit
              ])
