-- Every change that a call makes keeps a graph lawful.
use Rattle.std.proofs.Common.{◌≡◌, ℕ, zero, suc, ◌<◌, ◌≤◌, true, false, ◌≢◌, ◌⊎◌, List, [], ◌∷◌, ◌++◌, length, get_or, set, sym, refl, ap, ◌∙◌, inl, inr, arith}
use Rattle.std.proofs.lemmas.List.{length-set, length_push, get_or-set_same, get_or-set_other, get_or_append_left, get_or_at, get_or_past}
use Rattle.std.proofs.lemmas.Bool.{cases_eq, cases_lt}
use Rattle.kinds.specs.declared.kind.Class.{Class}
use Rattle.kinds.specs.declared.kind.Class.TheVariants.{Pointer}
use Rattle.kinds.specs.Kinds.{takes, is_unset}
use Rattle.graph.specs.Graph.{trap, Value, plain, ref, Kind, Object, Graph, nothing, object, celled, put_cell, put_register, add_object}
use Rattle.graph.specs.Shape.{boxed}
use Rattle.graph.specs.Lawful.{class_of, Known, holds, Lawful}

-- what holds of every value of a list holds after one is replaced
pub each_set : (P : Value → Type 0) (vs : List Value) (k : ℕ) (v : Value) → P v → ((j : ℕ) → P (get_or vs j (plain trap))) → (j : ℕ) → P (get_or (set vs k v) j (plain trap))
each_set P [] k v a b j = b j
each_set P (x ∷ vs) zero v a b zero = a
each_set P (x ∷ vs) zero v a b (suc j) = b (suc j)
each_set P (x ∷ vs) (suc k) v a b zero = b 0
each_set P (x ∷ vs) (suc k) v a b (suc j) = each_set P vs k v a (λ n. b (suc n)) j

pub known_more : (os os' : List Object) → length os ≤ length os' → (v : Value) → Known os v → Known os' v
known_more os os' l (plain x) h = tt
known_more os os' l (ref i) h = omega arith

-- what may be written into a cell may stand there
pub takes-holds : (κ : Kind) (k : ℕ) (c : Class) → takes κ k c ≡ true → holds κ k c ≡ true
takes-holds κ k c e = rw e refl

-- a register is set to a value
pub lawful-register : (g : Graph) → Lawful g → (k : ℕ) (v : Value) → Known g.objects v → is_unset (class_of g.objects v) ≡ false → Lawful (put_register g k v)
lawful-register g l k v known st = record {
  cells_known = l.cells_known;
  cells_typed = l.cells_typed;
  registers_long = length-set g.registers k v ∙ l.registers_long;
  registers_known = each_set (Known g.objects) g.registers k v known l.registers_known;
  registers_set = λ r b. elim (cases_eq r k) [
    | inl e ↦ rw (e, get_or-set_same g.registers k v (plain trap) (omega (arith, l.registers_long))) st
    | inr d ↦ rw (get_or-set_other g.registers k r v (plain trap) d) (l.registers_set r b)
  ];
  space_known = l.space_known;
}

-- a cell of object i is replaced
module _ (g : Graph) (l : Lawful g) (i k : ℕ) (v : Value) (there : i < length g.objects) (known : Known g.objects v)
    (typed : boxed (object g i).kind ≡ true → holds (object g i).kind k (class_of g.objects v) ≡ true) where
  abbrev os : List Object
  os = g.objects

  abbrev os' : List Object
  os' = set g.objects i (celled (object g i) k v)

  mine : get_or os' i nothing ≡ celled (object g i) k v
  mine = get_or-set_same os i (celled (object g i) k v) nothing there

  theirs : (j : ℕ) → j ≢ i → get_or os' j nothing ≡ get_or os j nothing
  theirs j d = get_or-set_other os i j (celled (object g i) k v) nothing d

  pub kind-same : (j : ℕ) → (get_or (set g.objects i (celled (object g i) k v)) j nothing).kind ≡ (get_or g.objects j nothing).kind
  kind-same j = elim (cases_eq j i) [ inl e ↦ rw (e, mine) refl | inr d ↦ rw (theirs j d) refl ]

  pub class_same : (w : Value) → class_of (set g.objects i (celled (object g i) k v)) w ≡ class_of g.objects w
  class_same (plain x) = refl
  class_same (ref j) = ap Pointer (kind-same j)

  known_same : (w : Value) → Known os w → Known os' w
  known_same w h = known_more os os' (omega (arith, length-set os i (celled (object g i) k v))) w h

  pub lawful-cell : Lawful (put_cell g i k v)
  lawful-cell = record {
    cells_known = λ j n. elim (cases_eq j i) [
      | inl e ↦ rw (e, mine) (each_set (Known os') (object g i).cells k v (known_same v known) (λ q. known_same (get_or (object g i).cells q (plain trap)) (l.cells_known i q)) n)
      | inr d ↦ rw (theirs j d) (known_same (get_or (get_or os j nothing).cells n (plain trap)) (l.cells_known j n))
    ];
    cells_typed = λ j n a b c. elim (cases_eq j i) [
      | inl e ↦ rw (e, mine) (rw (class_same (get_or (set (object g i).cells k v) n (plain trap))) (own n (rw (e, mine) at b) (rw (e, mine, length-set (object g i).cells k v) at c)))
      | inr d ↦ rw (theirs j d) (rw (class_same (get_or (get_or os j nothing).cells n (plain trap)))
          (l.cells_typed j n (omega (arith, a, length-set os i (celled (object g i) k v))) (rw (theirs j d) at b) (rw (theirs j d) at c)))
    ];
    registers_long = l.registers_long;
    registers_known = λ r. known_same (get_or g.registers r (plain trap)) (l.registers_known r);
    registers_set = λ r b. rw (class_same (get_or g.registers r (plain trap))) (l.registers_set r b);
    space_known = l.space_known;
  }
    where
      own : (n : ℕ) → boxed (object g i).kind ≡ true → n < length (object g i).cells → holds (object g i).kind n (class_of os (get_or (set (object g i).cells k v) n (plain trap))) ≡ true
      own n b c = elim (cases_eq n k) [
        | inl e ↦ rw (e, get_or-set_same (object g i).cells k v (plain trap) (rw e at c)) (typed b)
        | inr d ↦ rw (get_or-set_other (object g i).cells k n v (plain trap) d) (l.cells_typed i n there b c)
      ]

-- an object is made
module _ (g : Graph) (l : Lawful g) (o : Object) (known : (k : ℕ) → Known g.objects (get_or o.cells k (plain trap)))
    (typed : boxed o.kind ≡ true → (k : ℕ) → k < length o.cells → holds o.kind k (class_of g.objects (get_or o.cells k (plain trap))) ≡ true) where
  abbrev before : List Object
  before = g.objects

  pub class-added : (w : Value) → Known g.objects w → class_of (g.objects ++ o ∷ []) w ≡ class_of g.objects w
  class-added (plain x) h = refl
  class-added (ref j) h = ap (λ q. Pointer q.kind) (get_or_append_left before (o ∷ []) nothing j h)

  longer : length before ≤ length (before ++ o ∷ [])
  longer = omega (arith, length_push before o)

  known-added : (w : Value) → Known before w → Known (before ++ o ∷ []) w
  known-added w h = known_more before (before ++ o ∷ []) longer w h

  -- an object is an earlier one, the new one, or none
  which : (j : ℕ) → ((j < length before) × (get_or (before ++ o ∷ []) j nothing ≡ get_or before j nothing)) ⊎ (((j ≡ length before) × (get_or (before ++ o ∷ []) j nothing ≡ o)) ⊎ ((length before < j) × (get_or (before ++ o ∷ []) j nothing ≡ nothing)))
  which j = elim (cases_lt j (length before)) [
    | inl b ↦ inl (b, get_or_append_left before (o ∷ []) nothing j b)
    | inr b ↦ elim (cases_eq j (length before)) [
      | inl e ↦ inr (inl (e, get_or_at before o [] nothing j (sym e)))
      | inr d ↦ inr (inr (omega arith, get_or_past (before ++ o ∷ []) j nothing (omega (arith, length_push before o))))
    ]
  ]

  pub lawful-added : Lawful (add_object g o)
  lawful-added = record {
    cells_known = λ j n. elim (which j) [
      | inl e ↦ rw e.1 (known-added (get_or (get_or before j nothing).cells n (plain trap)) (l.cells_known j n))
      | inr (inl e) ↦ rw e.1 (known-added (get_or o.cells n (plain trap)) (known n))
      | inr (inr e) ↦ rw e.1 tt
    ];
    cells_typed = λ j n a b c. elim (which j) [
      | inl e ↦ rw e.1 (rw (class-added (get_or (get_or before j nothing).cells n (plain trap)) (l.cells_known j n)) (l.cells_typed j n e.0 (rw e.1 at b) (rw e.1 at c)))
      | inr (inl e) ↦ rw e.1 (rw (class-added (get_or o.cells n (plain trap)) (known n)) (typed (rw e.1 at b) n (rw e.1 at c)))
      | inr (inr e) ↦ absurd (omega (arith, a, e.0, length_push before o))
    ];
    registers_long = l.registers_long;
    registers_known = λ r. known-added (get_or g.registers r (plain trap)) (l.registers_known r);
    registers_set = λ r b. rw (class-added (get_or g.registers r (plain trap)) (l.registers_known r)) (l.registers_set r b);
    space_known = l.space_known;
  }
