-- (g) The flip shows the same graph; registers may then be old.
use Rattle.std.proofs.Common.{◌≡◌, ℕ, zero, suc, ◌+◌, ◌-◌, ◌<◌, ◌≤◌, Bool, true, false, not, ◌&&◌, eqb, ltb, leb, ◌≢◌, ◌⊎◌, List, length, get_or, sym, refl, ap, ◌∙◌, inl, inr, arith}
use Rattle.std.proofs.lemmas.Bool.{cases_eq, cases_Bool, true≢false, eq-eqb, ne_eqb, eqb-true, eqb-false, and_parts, and_from, not-true, not_from_false, lt-ltb, le-ltb, lt-leb, le-leb}
use Rattle.std.proofs.lemmas.Bool.Decides.{nat_tests}
use Rattle.words.specs.Words.{pointer_word}
use Rattle.graph.specs.Graph.{trap, Value, plain, ref, Kind, Object, Graph, object}
use Rattle.graph.specs.Shape.{code, index, boxed, Want, exact, value, want}
use Rattle.graph.proofs.Shape.{want-exact, want-cases, want-head, want-cell}
use Rattle.layout.specs.Machine.{Table, Machine, Frame, windows, window, start, room, low, dirty, old_space, now_space}
use Rattle.layout.specs.Places.{Tag, gap, here, past, Places, space_now, new_window, new_address, old_address, Means, Fits, Map}
use Rattle.layout.specs.Shows.{flat, Holds, Rules, Steady, Row, Filled, Counts, sum_to, weight, words_where, is_copy, is_made, is_in, Shown}
use Rattle.layout.specs.Flip.{turn, flipping, flipped_table, flipped_machine, Flipped, Clean}
use Rattle.layout.proofs.Windows.{window-below, window_same, windows-apart, now-below, space-below, space-new, new-below}
use Rattle.layout.proofs.Counting.{sum_to-same}

-- numbers alone
dyn-space : (now s : ℕ) → now < 2 → s ≡ 0 → now_space now s ≡ old_space (old_space now)
dyn-space now s l e = rw (eq-eqb s 0 e) (omega arith)

steady-space : (now s : ℕ) → s ≢ 0 → now_space now s ≡ now_space (old_space now) s
steady-space now s d = rw (ne_eqb s 0 d) refl

own-space : (now s : ℕ) → s ≢ 0 → now_space now s ≡ s
own-space now s d = rw (ne_eqb s 0 d) refl

all-below : (x n : ℕ) → x < n → (leb 0 x && ltb x n) ≡ true
all-below x n l = grind (arith, nat_tests)

module _ (p : Places) where
  -- placed afterwards: in static or read-only space
  was-placed : (i : ℕ) → (p.placed i && not (eqb (p.space i) 0)) ≡ true → (p.placed i ≡ true) × (p.space i ≢ 0)
  was-placed i u = let a = and_parts (p.placed i) (not (eqb (p.space i) 0)) u in (a.0, eqb-false (p.space i) 0 (not-true (eqb (p.space i) 0) a.1))

  is-placed : (i : ℕ) → p.placed i ≡ true → p.space i ≢ 0 → (p.placed i && not (eqb (p.space i) 0)) ≡ true
  is-placed i u d = and_from (p.placed i) (not (eqb (p.space i) 0)) u (not_from_false (eqb (p.space i) 0) (ne_eqb (p.space i) 0 d))

  was-live : (i : ℕ) → (p.placed i && eqb (p.space i) 0) ≡ true → (p.placed i ≡ true) × (p.space i ≡ 0)
  was-live i u = let a = and_parts (p.placed i) (eqb (p.space i) 0) u in (a.0, eqb-true (p.space i) 0 a.1)

  is_live : (i : ℕ) → p.placed i ≡ true → p.space i ≡ 0 → (p.placed i && eqb (p.space i) 0) ≡ true
  is_live i u e = and_from (p.placed i) (eqb (p.space i) 0) u (eq-eqb (p.space i) 0 e)

  means-steady : (d : Bool) (w : ℕ) (v : Value) → Steady p v → Means p false w v → Means (flipping p) d w v
  means-steady d w (plain x) s h = h
  means-steady d w (ref i) s (inl h) = inl (is-placed i h.0 s.1, h.1 ∙ ap (λ e. pointer_word (code (p.kind i)) e (p.new i)) (steady-space p.now (p.space i) s.1))
  means-steady d w (ref i) s (inr h) = absurd (true≢false (sym h.0))

  module _ (nb : p.now < 2) where
    means-turned : (w : ℕ) (v : Value) → Means p false w v → Means (flipping p) true w v
    means-turned w (plain x) h = h
    means-turned w (ref i) (inl h) = elim (cases_eq (p.space i) 0) [
      | inl e ↦ inr (refl, is_live i h.0 e, h.1 ∙ ap (λ s. pointer_word (code (p.kind i)) s (p.new i)) (dyn-space p.now (p.space i) nb e))
      | inr d ↦ means-steady true w (ref i) (h.0, d) (inl h)
    ]
    means-turned w (ref i) (inr h) = absurd (true≢false (sym h.0))

    fits-turned : (w : ℕ) (v : Want) → Fits p false w v → Fits (flipping p) true w v
    fits-turned w (exact x) h = h
    fits-turned w (value v) h = means-turned w v h

    row-turned : (ws : List ℕ) (vs : List Value) (d d' : ℕ → Bool) → ((k : ℕ) → k < length vs → d k ≡ false) → ((k : ℕ) → k < length ws → d' k ≡ true) → Row p d ws vs → Row (flipping p) d' ws vs
    row-turned ws vs d d' e e' h = record {
      long = h.long;
      means = λ k l. rw (e' k (omega (arith, h.long, l))) (means-turned (get_or ws k 0) (get_or vs k (plain trap)) (rw (e k l) at (h.means k l)));
    }

  -- the words of a read-only object
  fits-steady : (o : Object) (k w : ℕ) (d : Bool) → ((c : ℕ) → Steady p (get_or o.cells c (plain trap))) → Fits p false w (want o k) → Fits (flipping p) d w (want o k)
  fits-steady o k w d s h = elim (cases_Bool (boxed o.kind)) [
    | inl b ↦ elim (want-cases o k) [
      | inl l ↦ rw (want-head o k l) (rw (want-head o k l) at h)
      | inr q ↦ let e : want o k ≡ value (get_or o.cells q.0 (plain trap)) = (ap (want o) q.1 ∙ want-cell o q.0 b) in
          rw e (means-steady d w (get_or o.cells q.0 (plain trap)) (s q.0) (rw e at h))
    ]
    | inr b ↦ let e = want-exact o k b in rw e.1 (rw e.1 at h)
  ]

turn-steady : (f : ℕ → ℕ) (i k : ℕ) → f i ≢ 0 → turn f (here i k) ≡ here i k
unfolding turn
turn-steady f i k d = rw (ne_eqb (f i) 0 d) refl

turn-dynamic : (f : ℕ → ℕ) (i k : ℕ) → f i ≡ 0 → turn f (here i k) ≡ past i k
unfolding turn
turn-dynamic f i k e = rw (eq-eqb (f i) 0 e) refl

turn-back : (f : ℕ → ℕ) (g : Tag) (i k : ℕ) → turn f g ≡ here i k → g ≡ here i k
unfolding turn
turn-back f gap i k e = let z : ◌≡◌ {A = ℕ} 0 1 = cc in absurd (omega arith)
turn-back f (past j l) i k e = let z : ◌≡◌ {A = ℕ} 0 1 = cc in absurd (omega arith)
turn-back f (here j l) i k e = elim (cases_eq (f j) 0) [
  | inl z ↦ (let y : past j l ≡ here i k = (sym (turn-dynamic f j l z) ∙ e) in let x : ◌≡◌ {A = ℕ} 0 1 = cc in absurd (omega arith))
  | inr z ↦ sym (turn-steady f j l z) ∙ e
]

turn_gap : (f : ℕ → ℕ) (g : Tag) → ((i k : ℕ) → g ≡ here i k → ⊥) → turn f g ≡ gap
unfolding turn
turn_gap f gap h = refl
turn_gap f (past j l) h = refl
turn_gap f (here j l) h = absurd (h j l refl)

sum_to-add : (n : ℕ) (f g h : ℕ → ℕ) → ((i : ℕ) → f i ≡ g i + h i) → sum_to n f ≡ sum_to n g + sum_to n h
sum_to-add zero f g h e = refl
sum_to-add (suc n) f g h e = let a = sum_to-add n f g h e in let b = e n in omega (arith, a, b)

words-none : (p : Places) (κ : Kind) (b : ℕ → Bool) → ((i : ℕ) → b i ≡ false) → words_where p κ b ≡ 0
unfolding words_where
words-none p κ b e = go p.count
  where
    go : (n : ℕ) → sum_to n (weight p κ b) ≡ 0
    go zero = refl
    go (suc n) = let a = go n in let z : weight p κ b n ≡ 0 = rw (e n) refl in omega (arith, a, z)

words_same : (p : Places) (κ : Kind) (b c : ℕ → Bool) → ((i : ℕ) → b i ≡ c i) → words_where p κ b ≡ words_where p κ c
unfolding words_where
words_same p κ b c e = sum_to-same p.count (weight p κ b) (weight p κ c) (λ i l. rw (e i) refl)

-- what is in use in new space was copied there or made there
words-split : (p : Places) (κ : Kind) → ((i : ℕ) → p.live i ≡ true → p.space i ≡ 0) → words_where p κ (λ i. p.placed i && eqb (p.space i) 0) ≡ words_where p κ (is_copy p) + words_where p κ (is_made p)
unfolding words_where
words-split p κ e = sum_to-add p.count (weight p κ (λ i. p.placed i && eqb (p.space i) 0)) (weight p κ (is_copy p)) (weight p κ (is_made p)) each
  where
    each : (i : ℕ) → weight p κ (λ i. p.placed i && eqb (p.space i) 0) i ≡ weight p κ (is_copy p) i + weight p κ (is_made p) i
    each i = elim (cases_Bool (p.live i)) [
      | inl u ↦ elim (cases_Bool (p.placed i)) [ inl v ↦ rw (u, v, eq-eqb (p.space i) 0 (e i u)) (omega arith) | inr v ↦ rw (u, v) refl ]
      | inr u ↦ rw u (omega arith)
    ]

module _ (r : ℕ) (p : Places) (m : Machine) (g : Graph) (h : Shown r p m g) (few : length g.registers ≤ r) (cl : Clean m)
    (ls hs fs ds es : List ℕ) (fl : Flipped m.table ls hs fs ds es) (fr : Frame (flipped_table m.table ls hs fs ds es)) where
  abbrev t : Table
  t = m.table

  abbrev t' : Table
  t' = flipped_table m.table ls hs fs ds es

  abbrev p' : Places
  p' = flipping p

  nb : p.now < 2
  nb = now-below p m.table h.frame h.map

  here-same : (i : ℕ) → p.space i ≢ 0 → new_address m.table (flipping p) i ≡ new_address m.table p i
  here-same i d = ap (λ s. start t (window (p.kind i) s) + p.new i) (sym (steady-space p.now (p.space i) d))

  past_same : (i : ℕ) → p.space i ≡ 0 → old_address m.table (flipping p) i ≡ new_address m.table p i
  past_same i e = ap (λ s. start t (window (p.kind i) s) + p.new i) (sym (dyn-space p.now (p.space i) nb e))

  above-one : (i : ℕ) → i < p.count → p.space i ≢ 0 → 1 < p.space i
  above-one i l d = let a = h.map.spaces i l in go (p.space i) d a.1
    where
      go : (s : ℕ) → s ≢ 0 → s ≢ 1 → 1 < s
      go s a b = omega arith

  -- a space that is not old afterwards is the empty one, static or read-only
  space-cases : (s : ℕ) → s ≢ old_space (old_space p.now) → (s ≡ old_space p.now) ⊎ (1 < s)
  space-cases s d = elim (cases_eq s (old_space p.now)) [ inl e ↦ inl e | inr e ↦ inr (go s p.now nb d e) ]
    where
      go : (s now : ℕ) → now < 2 → s ≢ old_space (old_space now) → s ≢ old_space now → 1 < s
      go s now a b c = omega arith

  now-same : old_space p.now ≡ old_space m.table.now
  now-same = ap old_space h.map.now_is

  map-flipped : Map (flipping p) (flipped_table m.table ls hs fs ds es)
  map-flipped = record {
    now_is = now-same;
    range = λ i u. q.range i (was-placed p i u).0;
    range_old = λ i u. q.range i (was-live p i u).0;
    spaces = q.spaces;
    some = q.some;
    dynamic_old = λ i u. (was-live p i u).1;
    inside = λ i u. let w = was-placed p i u in rw (← steady-space p.now (p.space i) w.1) (q.inside i w.0);
    inside_old = λ i u. let w = was-live p i u in rw (← dyn-space p.now (p.space i) nb w.1) (q.inside i w.0);
    tagged = λ i k u l. let w = was-placed p i u in rw (here-same i w.1, q.tagged i k w.0 l) (turn-steady p.space i k w.1);
    tagged_old = λ i k u l. let w = was-live p i u in rw (past_same i w.1, q.tagged i k w.0 l) (turn-dynamic p.space i k w.1);
    back = λ x i k e. let y = turn-back p.space (p.tag x) i k e in let z = q.back x i k y in let d = steady i k x e y in
        (is-placed p i z.0 d, z.1, rw (here-same i d) z.2);
    steady_low = low';
    in_use = λ i u. inl (low' i u (was-placed p i u).1);
    gaps = gaps';
  }
    where
      q : Map p m.table
      q = h.map

      low' : (i : ℕ) → (p.placed i && not (eqb (p.space i) 0)) ≡ true → p.space i ≢ 0 → p.new i + p.size i ≤ get_or ls (new_window (flipping p) i) 0
      low' i u d =
          let w = was-placed p i u in
          let b = above-one i (q.range i w.0) d in
          let e = own-space p.now (p.space i) d in
          let e' : now_space (old_space p.now) (p.space i) ≡ p.space i = own-space (old_space p.now) (p.space i) d in
          rw (e', fl.same_lows (p.kind i) (p.space i) b (q.spaces i (q.range i w.0)).0) (rw e at (q.steady_low i w.0 d))

      steady : (i k x : ℕ) → turn p.space (p.tag x) ≡ here i k → p.tag x ≡ here i k → p.space i ≢ 0
      steady i k x e y z = let a : turn p.space (p.tag x) ≡ past i k = (rw y (turn-dynamic p.space i k z)) in let b : ◌≡◌ {A = ℕ} 0 1 = cc in omega arith

      gaps' : (κ : Kind) (s x : ℕ) → s < 4 → s ≢ old_space (old_space p.now) → get_or ls (window κ s) 0 ≤ x → x < get_or hs (window κ s) 0 → turn p.space (p.tag (start t (window κ s) + x)) ≡ gap
      gaps' κ s x a b c d =
          elim (space-cases s b) [
            | inl e ↦ turn_gap p.space (p.tag (start t (window κ s) + x)) (λ i k y.
                let z = q.back (start t (window κ s) + x) i k y in
                let v : get_or hs (window κ s) 0 ≡ room t (window κ s) = (rw (e ∙ now-same) (fl.whole κ)) in
                let n = q.inside i z.0 in
                let same = windows-apart t h.frame (window κ s) (new_window p i) x (p.new i + k) (window-below κ s a) (new-below p t h.frame q i z.0) (omega (arith, v, d)) (omega (arith, n, z.1)) (omega (arith, z.2)) in
                let w = window_same κ (p.kind i) s (space_now p i) a (space-below p t h.frame q i (q.range i z.0)) same.0 in
                space-new p t h.frame q i (q.range i z.0) (sym w.1 ∙ e))
            | inr e ↦ ap (turn p.space) (q.gaps κ s x a (λ z. let y = nb in omega (arith, z, e, y)) (rw (fl.same_lows κ s e a) at c) (rw (fl.same_highs κ s e a) at d)) ∙ turn_gap p.space gap (λ i k z. let y : ◌≡◌ {A = ℕ} 0 1 = cc in omega arith)
          ]

  -- a boxed static word in use is dirty
  dirty-static : (κ : Kind) (x : ℕ) → boxed κ ≡ true → x < low m.table (window κ 2) → dirty (flipped_table m.table ls hs fs ds es) (window κ 2) x ≡ true
  unfolding dirty
  dirty-static κ x b l = rw (fl.static_from κ b, fl.static_to κ b) (all-below x (low t (window κ 2)) l)

  holds-flipped : Holds (flipping p) (flipped_table m.table ls hs fs ds es) m.words g.objects
  holds-flipped = record {
    count_is = o.count_is;
    kind_is = o.kind_is;
    space_is = o.space_is;
    size_is = o.size_is;
    long = o.long;
    holds = λ i k u l. let w = was-placed p i u in rw (here-same i w.1) (holds' i k w.0 w.1 l);
    holds_old = λ i k u c l. let w = was-live p i u in rw (past_same i w.1) (fits-turned p nb (get_or m.words (new_address t p i + k) 0) (want (object g i) k) (clean i k w.0 l));
    forward = λ i u c. absurd ((was-placed p i c).1 (was-live p i u).1);
  }
    where
      o : Holds p m.table m.words g.objects
      o = h.memory

      q : Map p m.table
      q = h.map

      clean : (i k : ℕ) → p.placed i ≡ true → k < p.size i → Fits p false (get_or m.words (new_address t p i + k) 0) (want (object g i) k)
      clean i k u l = rw (cl.words_clean (new_window p i) (p.new i + k)) at (o.holds i k u l)

      holds' : (i k : ℕ) → p.placed i ≡ true → p.space i ≢ 0 → k < p.size i → Fits p' (dirty t' (new_window p' i) (p.new i + k)) (get_or m.words (new_address t p i + k) 0) (want (object g i) k)
      holds' i k u d l =
          let n = q.range i u in
          elim (cases_eq (p.space i) 3) [
            | inl e ↦ fits-steady p (object g i) k (get_or m.words (new_address t p i + k) 0) (dirty t' (new_window p' i) (p.new i + k)) (λ c. h.rules.closed i c n e) (clean i k u l)
            | inr e ↦ elim (cases_Bool (boxed (p.kind i))) [
              | inl b ↦ let two : p.space i ≡ 2 = two_is (p.space i) (above-one i n d) (q.spaces i n).0 e in
                  let s' : now_space (old_space p.now) (p.space i) ≡ 2 = (own-space (old_space p.now) (p.space i) d ∙ two) in
                  let s : now_space p.now (p.space i) ≡ 2 = (own-space p.now (p.space i) d ∙ two) in
                  let y : p.new i + p.size i ≤ low t (window (p.kind i) 2) = (rw s at (q.steady_low i u d)) in
                  rw (s', dirty-static (p.kind i) (p.new i + k) b (omega (arith, y, l)))
                  (fits-turned p nb (get_or m.words (new_address t p i + k) 0) (want (object g i) k) (clean i k u l))
              | inr b ↦ let z = want-exact (object g i) k (sym (ap boxed (o.kind_is i n)) ∙ b) in rw z.1 (rw z.1 at (clean i k u l))
            ]
          ]
        where
          two_is : (s : ℕ) → 1 < s → s < 4 → s ≢ 3 → s ≡ 2
          two_is s a b c = omega arith

  steady-flipped : (v : Value) → Steady p v → Steady (flipping p) v
  steady-flipped (plain x) s = tt
  steady-flipped (ref i) s = (is-placed p i s.0 s.1, s.1)

  rules-flipped : Rules (flipping p) (flipped_table m.table ls hs fs ds es) g.objects
  rules-flipped = record {
    steady = λ i l d. is-placed p i (h.rules.steady i l d) d;
    closed = λ i k l e. steady-flipped (get_or (object g i).cells k (plain trap)) (h.rules.closed i k l e);
    frozen_is = h.rules.frozen_is;
    shaped = h.rules.shaped;
  }

  filled-flipped : Filled (flipping p) (flipped_table m.table ls hs fs ds es)
  filled-flipped = record {
    filled = λ κ s x a b c. elim (space-cases s b) [
      | inl e ↦ absurd (let y : get_or ls (window κ s) 0 ≡ 0 = (rw (e ∙ now-same) (fl.emptied κ)) in omega (arith, y, c))
      | inr e ↦
          let z = h.filled.filled κ s x a (λ y. let v = nb in omega (arith, y, e, v)) (rw (fl.same_lows κ s e a) at c) in
          let d : p.space z.0 ≢ 0 = (λ y. let v = dyn-space p.now (p.space z.0) nb y in let u = nb in let w = z.5 in omega (arith, v, w, e, u)) in
          (z.0, z.1, is-placed p z.0 z.2 d, z.3, z.4, sym (steady-space p.now (p.space z.0) d) ∙ z.5, z.6)
    ];
  }

  counts-flipped : Counts (flipping p) (flipped_table m.table ls hs fs ds es)
  unfolding words_where
  counts-flipped = record {
    copies = λ κ. (let e : get_or ls (window κ (old_space p.now)) 0 ≡ 0 = (rw now-same (fl.emptied κ)) in e) ∙ sym (words-none p' κ (is_copy p') no_copy);
    makes = λ κ. (let e : get_or hs (window κ (old_space p.now)) 0 ≡ room t (window κ (old_space p.now)) = (rw now-same (fl.whole κ)) in
        let y : room t (window κ (old_space p.now)) - get_or hs (window κ (old_space p.now)) 0 ≡ 0 = omega (arith, e) in y) ∙ sym (words-none p' κ (is_made p') no-made);
    steadies = λ κ s a b. fl.same_lows κ s a b ∙ h.counts.steadies κ s a b ∙ words_same p κ (is_in p s) (is_in p' s) (same_in s a);
    helds = λ κ. fl.held_is κ ∙ (rw (← h.map.now_is) (let a = h.counts.copies κ in let b = h.counts.makes κ in omega (arith, a, b, words-split p κ h.map.dynamic_old)));
  }
    where
      no_copy : (i : ℕ) → is_copy p' i ≡ false
      no_copy i = go (p.placed i) (eqb (p.space i) 0)
        where
          go : (a b : Bool) → ((a && b) && (a && not b)) ≡ false
          go true true = refl
          go true false = refl
          go false true = refl
          go false false = refl

      no-made : (i : ℕ) → is_made p' i ≡ false
      no-made i = go (p.placed i) (eqb (p.space i) 0)
        where
          go : (a b : Bool) → (not (a && b) && ((a && not b) && b)) ≡ false
          go true true = refl
          go true false = refl
          go false true = refl
          go false false = refl

      same_in : (s : ℕ) → 1 < s → (i : ℕ) → is_in p s i ≡ is_in p' s i
      same_in s a i = elim (cases_eq (p.space i) s) [
        | inl e ↦ (let d : p.space i ≢ 0 = (λ z. omega (arith, z, e, a)) in rw (ne_eqb (p.space i) 0 d) (go (p.placed i) (eqb (p.space i) s)))
        | inr e ↦ rw (ne_eqb (p.space i) s e) (none (p.placed i) (p.placed i && not (eqb (p.space i) 0)))
      ]
        where
          go : (a b : Bool) → (a && b) ≡ ((a && true) && b)
          go true b = refl
          go false b = refl

          none : (a b : Bool) → (a && false) ≡ (b && false)
          none true true = refl
          none true false = refl
          none false true = refl
          none false false = refl

  pub shows-flip : Shown 0 (flipping p) (flipped_machine m ls hs fs ds es) g
  shows-flip = record {
    frame = fr;
    map = map-flipped;
    memory = holds-flipped;
    rules = rules-flipped;
    filled = filled-flipped;
    counts = counts-flipped;
    edits = h.edits;
    space = h.space;
    lawful = h.lawful;
    sound = h.sound;
    roots = record {
      registers = row-turned p nb m.stacks.registers g.registers (λ k. leb r k) (λ k. leb 0 k) (λ k l. lt-leb r k (omega (arith, l, few))) (λ k l. le-leb 0 k (omega arith)) h.roots.registers;
      control = row-turned p nb m.stacks.control g.control (λ k. ltb k m.stacks.control_dirty) (λ k. ltb k (length m.stacks.control))
          (λ k l. le-ltb k m.stacks.control_dirty (omega (arith, cl.control_clean))) (λ k l. lt-ltb k (length m.stacks.control) l) h.roots.control;
      bindings = row-turned p nb m.stacks.bindings (flat g.bindings) (λ k. ltb k m.stacks.bindings_dirty) (λ k. ltb k (length m.stacks.bindings))
          (λ k l. le-ltb k m.stacks.bindings_dirty (omega (arith, cl.bindings_clean))) (λ k l. lt-ltb k (length m.stacks.bindings) l) h.roots.bindings;
    };
  }

  -- an object that was in new space is in old space then, and the first copy finds room
  module _ (i : ℕ) (u : p.placed i ≡ true) (e : p.space i ≡ 0) where
    pub flip-live : (flipping p).live i ≡ true
    flip-live = is_live p i u e

    pub flip-unplaced : (flipping p).placed i ≡ false
    flip-unplaced = rw (eq-eqb (p.space i) 0 e) (go (p.placed i))
      where
        go : (b : Bool) → (b && false) ≡ false
        go true = refl
        go false = refl

    -- what was in use at the flip fits the empty space
    pub flip-held : get_or es (index (p.kind i)) 0 ≤ room m.table (window (p.kind i) (old_space m.table.now))
    flip-held =
        let a = fl.held_is (p.kind i) in
        let b = h.frame.apart (window (p.kind i) m.table.now) below in
        let c = h.frame.within (window (p.kind i) m.table.now) below in
        let d = twin m.table.now h.frame.which in
        omega (arith, a, b, c, d)
      where
        below : window (p.kind i) m.table.now < windows
        below = window-below (p.kind i) m.table.now (omega (arith, h.frame.which))

        twin : (n : ℕ) → n < 2 → room t (window (p.kind i) n) ≡ room t (window (p.kind i) (old_space n))
        twin zero l = h.frame.twins (p.kind i)
        twin (suc zero) l = sym (h.frame.twins (p.kind i))
        twin (suc (suc n)) l = absurd (omega arith)
