-- What the barrier and the scavenger find, and what they leave.
use Rattle.std.proofs.Common.{◌≡◌, ℕ, ◌+◌, ◌<◌, Bool, true, false, ◌≢◌, length, get_or, set, sym, refl, ap, ◌∙◌, inl, inr, arith}
use Rattle.std.proofs.lemmas.List.{set-get_or}
use Rattle.std.proofs.lemmas.Bool.{cases_Bool}
use Rattle.words.specs.Words.{type_of, space_of, pointer_of, pointer_word, header_word, words_of}
use Rattle.words.proofs.Coding.{type_of-pointer, space_of-pointer, pointer_of-pointer, words_of-header, type_of-header}
use Rattle.graph.specs.Graph.{Immediate, fixnum, character, null, trap, Value, plain, ref, Object, Graph, nothing, object}
use Rattle.graph.specs.Shape.{code, boxed, immediate_word, Small, value, want, size, size_by, Shaped}
use Rattle.graph.proofs.Shape.{code-pointer, size_by-cases, want-first, want-cases, want-cell, size-boxed, unboxed-heads}
use Rattle.layout.specs.Machine.{Table, Machine, Frame, dirty, old_space, with_words, word_at}
use Rattle.layout.specs.Places.{Places, space_now, new_window, old_window, new_word, old_word, new_address, old_address, Means, Fits, Map}
use Rattle.layout.specs.Shows.{Shown}
use Rattle.layout.proofs.Windows.{space-below, new-below, old_below, new-narrow, old-narrow, old-in}
use Rattle.layout.proofs.Writing.{holds-change}

-- no word that means something is a forward
immediate-type : (x : Immediate) → Small x → type_of (immediate_word x) ≢ 15
immediate-type (fixnum d) s e = omega (arith, s, e)
immediate-type (character c) s e = omega (arith, s, e)
immediate-type null s e = omega (arith, e)
immediate-type trap s e = omega (arith, e)

module _ (p : Places) (t : Table) (f : Frame t) (q : Map p t) where
  pub means-type : (d : Bool) (w : ℕ) (v : Value) → Means p d w v → type_of w ≢ 15
  means-type d w (plain x) h e = immediate-type x h.1 (ap type_of (sym h.0) ∙ e)
  means-type d w (ref i) (inl h) e =
      let n = new-narrow p t f q i h.0 in
      let a = type_of-pointer (code (p.kind i)) (space_now p i) (p.new i) (space-below p t f q i (q.range i h.0)) (omega arith) in
      let b = ap type_of h.1 in let c = code-pointer (p.kind i) in omega (arith, a, b, c.1, e)
  means-type d w (ref i) (inr h) e =
      let n = old-narrow p t f q i h.1 in
      let a = type_of-pointer (code (p.kind i)) (old_space p.now) (p.old i) (omega arith) (omega arith) in
      let b = ap type_of h.2 in let c = code-pointer (p.kind i) in omega (arith, a, b, c.1, e)

  -- an old pointer leads to the place at the flip
  pub old-leads : (i : ℕ) → p.live i ≡ true → (type_of (old_word p i) ≡ code (p.kind i)) × (space_of (old_word p i) ≡ old_space p.now) × (pointer_of (old_word p i) ≡ p.old i)
  old-leads i u = let n = old-narrow p t f q i u in (
    type_of-pointer (code (p.kind i)) (old_space p.now) (p.old i) (omega arith) (omega arith),
    space_of-pointer (code (p.kind i)) (old_space p.now) (p.old i) (omega arith) (omega arith),
    pointer_of-pointer (code (p.kind i)) (old_space p.now) (p.old i) (omega arith),
  )

-- the first word of an object tells its size, so that a check of it succeeds
pub size-told : (p : Places) (o : Object) → Shaped o → size o < 16777216 → (d : Bool) (w : ℕ) → Fits p d w (want o 0) → size_by o.kind w ≡ size o
size-told p o sh small d w h = elim (size_by-cases o.kind) [
  | inl c ↦ (let e : w ≡ header_word (size o) = (rw (want-first o c.0) at h) in c.1 w ∙ ap words_of e ∙ words_of-header (size o) small)
  | inr c ↦ c.1 (length o.cells) w sh.counted ∙ sym (size-boxed o c.0)
]

module _ (r : ℕ) (p : Places) (m : Machine) (g : Graph) (h : Shown r p m g) where
  size_small : (i : ℕ) → p.placed i ≡ true → size (object g i) < 16777216
  size_small i u = let a = h.map.inside i u in let b = h.frame.narrow (new_window p i) (new-below p m.table h.frame h.map i u) in let c = h.memory.size_is i (h.map.range i u) in omega (arith, a, b, c)

  -- (c) of an object in its place: the first word is in the memory, and has the size
  pub shows-size : (i : ℕ) → p.placed i ≡ true → size_by (object g i).kind (word_at m (new_address m.table p i)) ≡ size (object g i)
  shows-size i u =
      let n = h.map.range i u in
      let e : new_address m.table p i + 0 ≡ new_address m.table p i = omega arith in
      size-told p (object g i) (h.rules.shaped i n) (size_small i u) (dirty m.table (new_window p i) (p.new i + 0)) (word_at m (new_address m.table p i)) (rw e at (h.memory.holds i 0 u (h.map.some i n)))

  -- the old place of an object that has not moved: no forward, and the size
  pub shows-unmoved : (i : ℕ) → p.live i ≡ true → p.placed i ≡ false →
      (old_address m.table p i < length m.words) × (size_by (object g i).kind (word_at m (old_address m.table p i)) ≡ size (object g i)) × (type_of (word_at m (old_address m.table p i)) ≢ 15)
  shows-unmoved i u c =
      let n = h.map.range_old i u in
      let k = h.map.some i n in
      let e : old_address m.table p i + 0 ≡ old_address m.table p i = omega arith in
      let y : Fits p true (word_at m (old_address m.table p i)) (want (object g i) 0) = (rw e at (h.memory.holds_old i 0 u c k)) in
      let small : size (object g i) < 16777216 = (let a = h.map.inside_old i u in let b = h.frame.narrow (old_window p i) (old_below p m.table h.frame h.map i) in let z = h.memory.size_is i n in omega (arith, a, b, z)) in (
        (rw e at (old-in p m.table h.frame h.map i 0 (length m.words) u k h.memory.long)),
        size-told p (object g i) (h.rules.shaped i n) small true (word_at m (old_address m.table p i)) y,
        first-type (object g i) (word_at m (old_address m.table p i)) small y,
      )
    where
      first-type : (o : Object) (w : ℕ) → size o < 16777216 → Fits p true w (want o 0) → type_of w ≢ 15
      first-type o w small y = elim (want-cases o 0) [
        | inl l ↦ (λ z. let a : w ≡ header_word (size o) = (rw (want-first o l) at y) in let b = ap type_of a in let d = type_of-header (size o) small in omega (arith, b, d, z))
        | inr q ↦ elim (cases_Bool (boxed o.kind)) [
          | inl b ↦ (let v : want o 0 ≡ value (get_or o.cells q.0 (plain trap)) = (ap (want o) q.1 ∙ want-cell o q.0 b) in
              means-type p m.table h.frame h.map true w (get_or o.cells q.0 (plain trap)) (rw v at y))
          | inr b ↦ absurd (let z = unboxed-heads o.kind b in omega (arith, z, q.1))
        ]
      ]

  -- the old place of one that has: a forward to where it is
  pub shows-moved : (i : ℕ) → p.live i ≡ true → p.placed i ≡ true →
      (type_of (word_at m (old_address m.table p i)) ≡ 15) × (pointer_word (code (p.kind i)) (space_of (word_at m (old_address m.table p i))) (pointer_of (word_at m (old_address m.table p i))) ≡ new_word p i)
  shows-moved i u c =
      let n = new-narrow p m.table h.frame h.map i c in
      let s = space-below p m.table h.frame h.map i (h.map.range i c) in
      rw (h.memory.forward i u c) (
        type_of-pointer 15 (space_now p i) (p.new i) s (omega arith),
        rw (space_of-pointer 15 (space_now p i) (p.new i) s (omega arith), pointer_of-pointer 15 (space_now p i) (p.new i) (omega arith)) refl,
      )

  -- word j of object i is replaced by a clean word that means the same
  pub shows-fix : (i j x : ℕ) → p.placed i ≡ true → j < p.size i → Fits p false x (want (object g i) j) → Shown r p (with_words m (set m.words (new_address m.table p i + j) x)) g
  shows-fix i j x u l e = record {
    frame = h.frame;
    map = h.map;
    rules = h.rules;
    filled = h.filled;
    counts = h.counts;
    roots = h.roots;
    edits = h.edits;
    space = h.space;
    lawful = h.lawful;
    sound = h.sound;
    memory = rw (set-get_or g.objects i nothing) at (holds-change p m.table m.words g.objects h.frame h.map h.memory i j x (object g i) u l refl refl refl (λ n d. refl) e);
  }
