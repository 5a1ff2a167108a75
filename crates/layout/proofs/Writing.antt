-- A word of an object is replaced, in the memory and in the graph.
use Rattle.std.proofs.Common.{◌≡◌, ℕ, ◌+◌, ◌<◌, Bool, true, false, ◌≢◌, List, length, get_or, set, sym, refl, ap, ◌∙◌, inl, inr, arith}
use Rattle.std.proofs.lemmas.List.{length-set, get_or-set_same, get_or-set_other}
use Rattle.std.proofs.lemmas.Bool.{cases_eq}
use Rattle.graph.specs.Graph.{trap, Value, plain, ref, Kind, Object, Graph, nothing, object, celled, put_cell}
use Rattle.graph.specs.Shape.{boxed, heads, want, size, Shaped}
use Rattle.graph.proofs.Shape.{size-boxed, size-celled, want-celled-same, want-celled-other, shaped-celled}
use Rattle.layout.specs.Machine.{Table, Machine, Frame, dirty, with_words}
use Rattle.layout.specs.Places.{Places, new_window, new_address, old_address, Means, Fits, Map}
use Rattle.layout.specs.Shows.{Holds, Rules, Steady, Shown}
use Rattle.kinds.specs.Kinds.{takes}
use Rattle.graph.specs.Lawful.{class_of}
use Rattle.graph.proofs.Lawful.{each_set, lawful-cell, takes-holds}
use Rattle.layout.proofs.Meaning.{means-ref, means-known, fits-weak}
use Rattle.layout.proofs.Windows.{new_in}
use Rattle.layout.proofs.Reading.{word_place, place-leads}

-- word j of object i becomes x, and the object o'
module _ (p : Places) (t : Table) (ws : List ℕ) (os : List Object) (f : Frame t) (q : Map p t) (h : Holds p t ws os) (i j x : ℕ) (o' : Object)
    (pl : p.placed i ≡ true) (l : j < p.size i) (sk : o'.kind ≡ (get_or os i nothing).kind) (ss : o'.space ≡ (get_or os i nothing).space) (sz : size o' ≡ size (get_or os i nothing))
    (others : (n : ℕ) → n ≢ j → want o' n ≡ want (get_or os i nothing) n) (fit : Fits p false x (want o' j)) where
  in-os : i < length os
  in-os = omega (arith, q.range i pl, h.count_is)

  mine : get_or (set os i o') i nothing ≡ o'
  mine = get_or-set_same os i o' nothing in-os

  theirs : (n : ℕ) → n ≢ i → get_or (set os i o') n nothing ≡ get_or os n nothing
  theirs n d = get_or-set_other os i n o' nothing d

  -- what kind, space and size a list of objects has
  same : (X : Type 0) (F : Object → X) → F o' ≡ F (get_or os i nothing) → (n : ℕ) → F (get_or (set os i o') n nothing) ≡ F (get_or os n nothing)
  same X F e n = elim (cases_eq n i) [ inl z ↦ rw (z, mine) e | inr d ↦ ap F (theirs n d) ]

  a : ℕ
  a = new_address t p i + j

  past-apart : (n k : ℕ) → p.live n ≡ true → k < p.size n → old_address t p n + k ≢ new_address t p i + j
  past-apart n k u b e =
      let y = q.tagged_old n k u b in
      let z = q.tagged i j pl l in
      let c : ◌≡◌ {A = ℕ} 0 1 = cc in omega arith

  here-apart : (n k : ℕ) → p.placed n ≡ true → k < p.size n → n ≢ i → new_address t p n + k ≢ new_address t p i + j
  here-apart n k u b d e =
      let y = q.tagged n k u b in
      let z = q.tagged i j pl l in
      let c : n ≡ i = cc in d c

  pub holds-change : Holds p t (set ws (new_address t p i + j) x) (set os i o')
  holds-change = record {
    count_is = h.count_is ∙ sym (length-set os i o');
    kind_is = λ n b. h.kind_is n b ∙ sym (same Kind (λ o. o.kind) sk n);
    space_is = λ n b. h.space_is n b ∙ sym (same ℕ (λ o. o.space) ss n);
    size_is = λ n b. h.size_is n b ∙ sym (same ℕ size sz n);
    long = rw (length-set ws (new_address t p i + j) x) h.long;
    holds = holds';
    holds_old = λ n k u c b. rw (get_or-set_other ws (new_address t p i + j) (old_address t p n + k) x 0 (past-apart n k u b), wants n k (λ e. unplaced n c e)) (h.holds_old n k u c b);
    forward = λ n u c. let z : old_address t p n ≢ new_address t p i + j = (λ e. past-apart n 0 u (q.some n (q.range n c)) (omega arith)) in
        get_or-set_other ws (new_address t p i + j) (old_address t p n) x 0 z ∙ h.forward n u c;
  }
    where
      unplaced : (n : ℕ) → p.placed n ≡ false → n ≡ i → ⊥
      unplaced n c e = let d : ◌≡◌ {A = Bool} true false = (sym pl ∙ ap p.placed (sym e) ∙ c) in let z : ◌≡◌ {A = ℕ} 0 1 = cc in omega arith

      wants : (n k : ℕ) → n ≢ i → want (get_or (set os i o') n nothing) k ≡ want (get_or os n nothing) k
      wants n k d = ap (λ o. want o k) (theirs n d)

      holds' : (n k : ℕ) → p.placed n ≡ true → k < p.size n →
          Fits p (dirty t (new_window p n) (p.new n + k)) (get_or (set ws (new_address t p i + j) x) (new_address t p n + k) 0) (want (get_or (set os i o') n nothing) k)
      holds' n k u b =
          elim (cases_eq n i) [
            | inl e ↦ rw (e, mine) (elim (cases_eq k j) [
              | inl z ↦ rw (z, get_or-set_same ws (new_address t p i + j) x 0 (new_in p t f q i j (length ws) pl l h.long))
                  (fits-weak p (dirty t (new_window p i) (p.new i + j)) x (want o' j) fit)
              | inr d ↦ let c : new_address t p i + k ≢ new_address t p i + j = (λ y. d (omega arith)) in
                  rw (get_or-set_other ws (new_address t p i + j) (new_address t p i + k) x 0 c, others k d) (h.holds i k pl (rw e at b))
            ])
            | inr d ↦ rw (get_or-set_other ws (new_address t p i + j) (new_address t p n + k) x 0 (here-apart n k u b d), wants n k d) (h.holds n k u b)
          ]

-- the same for the rules
module _ (p : Places) (t : Table) (os : List Object) (h : Rules p t os) (i : ℕ) (o' : Object) (l : i < p.count) (n : p.count ≡ length os) (sf : o'.frozen ≡ (get_or os i nothing).frozen)
    (sh : Shaped o') (st : p.space i ≡ 3 → (k : ℕ) → Steady p (get_or o'.cells k (plain trap))) where
  pub rules-change : Rules p t (set os i o')
  rules-change = record {
    steady = h.steady;
    closed = λ j k b e. elim (cases_eq j i) [ inl z ↦ rw (z, own) (st (rw z at e) k) | inr d ↦ rw (get_or-set_other os i j o' nothing d) (h.closed j k b e) ];
    frozen_is = λ j b e. elim (cases_eq j i) [ inl z ↦ rw (z, own) (sf ∙ h.frozen_is i l (rw z at e)) | inr d ↦ rw (get_or-set_other os i j o' nothing d) (h.frozen_is j b e) ];
    shaped = λ j b. elim (cases_eq j i) [ inl z ↦ rw (z, own) sh | inr d ↦ rw (get_or-set_other os i j o' nothing d) (h.shaped j b) ];
  }
    where
      own : get_or (set os i o') i nothing ≡ o'
      own = get_or-set_same os i o' nothing (omega arith)

-- (d) a cell of a boxed object is written
pub shows-write-cell : (r : ℕ) (p : Places) (m : Machine) (g : Graph) → Shown r p m g → (w i : ℕ) → Means p false w (ref i) → boxed (object g i).kind ≡ true → (k : ℕ) → k < length (object g i).cells →
    (x : ℕ) (v : Value) → Means p false x v → (p.space i ≡ 3 → Steady p v) → takes (object g i).kind k (class_of g.objects v) ≡ true →
    Shown r p (with_words m (set m.words (word_place m.table (object g i).kind w (heads (object g i).kind + k)) x)) (put_cell g i k v)
shows-write-cell r p m g s w i h b k l x v e st ty =
    let a = means-ref p w i h in
    let n = s.map.range i a.0 in
    let z : heads (object g i).kind + k < p.size i = omega (arith, s.memory.size_is i n, size-boxed (object g i) b) in
    rw (place-leads p m.table s.frame s.map w i h (object g i).kind (s.memory.kind_is i n) (heads (object g i).kind + k))
    (record {
      frame = s.frame;
      map = s.map;
      filled = s.filled;
      counts = s.counts;
      edits = s.edits;
      space = s.space;
      lawful = lawful-cell g s.lawful i k v (omega (arith, n, s.memory.count_is)) (means-known p m.table m.words g.objects s.map s.memory false x v e) (λ y. takes-holds (object g i).kind k (class_of g.objects v) ty);
      sound = s.sound;
      memory = holds-change p m.table m.words g.objects s.frame s.map s.memory i (heads (object g i).kind + k) x (celled (object g i) k v)
          a.0 z refl refl (size-celled (object g i) k v) (λ j d. want-celled-other (object g i) k v j b d) (rw (want-celled-same (object g i) k v b l) e);
      rules = rules-change p m.table g.objects s.rules i (celled (object g i) k v) n s.memory.count_is refl (shaped-celled (object g i) k v b (s.rules.shaped i n))
          (λ e j. each_set (Steady p) (object g i).cells k v (st e) (λ y. s.rules.closed i y n e) j);
      roots = s.roots;
    })
