-- A cell or entry that is written holds what the graph has there then.
use Rattle.std.proofs.Common.{◌≡◌, ℕ, ◌+◌, ◌/◌, ◌%◌, ◌^◌, ◌<◌, Bool, true, false, ◌&&◌, ◌||◌, ltb, List, length, get_or, set, Ok, Result, refl, inl, inr, mod-eq_of_lt, arith}
use Rattle.std.proofs.lemmas.Bool.Decides.{nat_tests}
use Rattle.std.proofs.lemmas.List.{length-map}
use Rattle.std.proofs.lemmas.Bool.{cases_Bool, lt-ltb}
use Rattle.words.specs.Words.{space_of, pointer_of}
use Rattle.words.specs.Packing.{bits_of, per_word, packed_word}
use Rattle.words.proofs.Packing.{packed-with}
use Rattle.kinds.specs.Kinds.{boxed, heads, takes, entry_number}
use Rattle.answers.specs.declared.Refusal.{Refusal}
use Rattle.graph.specs.Graph.{Value, ref, Kind, Object, Graph, object, put_cell}
use Rattle.graph.specs.Shape.{entries, entry_of}
use Rattle.graph.specs.Lawful.{class_of}
use Rattle.graph.specs.Calls.{fits}
use Rattle.layout.specs.Machine.{Table, Machine, window, start, with_words}
use Rattle.layout.specs.Places.{Places, Means}
use Rattle.layout.specs.Shows.{Shown, Steady}
use Rattle.layout.proofs.Meaning.{means-ref}
use Rattle.layout.proofs.Reading.{word_place, shows-read-cell}
use Rattle.layout.proofs.Writing.{shows-write-cell}
use Rattle.layout.proofs.Entries.{entry_word, shows-entry-word, shows-write-entry}
use Rattle.objects.specs.declared.opened.Opened.{Opened}
use Rattle.objects.specs.Open.{located, opened_with}
use Rattle.cells.specs.Cells.{cell_place, entry_place, entered, saved}
use Rattle.laws.proofs.Fitting.{entry-taken}

saved-cell : (o : Opened) (k w : ℕ) (ws : List ℕ) (a : ℕ) → boxed o.kind ≡ true → cell_place o k ≡ a → a < length ws → saved o k w ws ≡ (set ws a w, Ok tt)
unfolding saved
saved-cell o k w ws a b e l = rw (b, e, lt-ltb a (length ws) l) refl

saved-entry : (o : Opened) (k w : ℕ) (ws : List ℕ) (a x : ℕ) → boxed o.kind ≡ false → entry_place o k ≡ a → a < length ws → entered o k w (get_or ws a 0) ≡ x → saved o k w ws ≡ (set ws a x, Ok tt)
unfolding saved
saved-entry o k w ws a x b e l f = rw (b, e, lt-ltb a (length ws) l, f) refl

located-is : (t : Table) (κ : Kind) (w : ℕ) → located t κ w ≡ start t (window κ (space_of w)) + pointer_of w
unfolding located
located-is t κ w = refl

-- a granted test of a cell and of an entry
taken : (a b c : Bool) → (a && (b || c)) ≡ true → (a ≡ true) × (b ≡ false → c ≡ true)
taken true true c h = (refl, λ e. absurd (let z : ◌≡◌ {A = ℕ} 0 1 = cc in omega arith))
taken true false c h = (refl, λ e. h)
taken false b c h = absurd (let z : ◌≡◌ {A = ℕ} 0 1 = cc in omega arith)

-- the memory is written, and shows the graph with the cell replaced
unfoldable pub Saves : Places → Machine → Graph → ℕ → ℕ → Value → List ℕ × Result (Unit {0}) Refusal → Type 0
Saves p m g i k v x = (ws : List ℕ) × (x ≡ (ws, Ok tt)) × Shown 16 p (with_words m ws) (put_cell g i k v)

module _ (p : Places) (m : Machine) (g : Graph) (s : Shown 16 p m g) (w i : ℕ) (h : Means p false w (ref i)) (k : ℕ) (l : k < length (object g i).cells)
    (x : ℕ) (v : Value) (e : Means p false x v) (st : p.space i ≡ 3 → Steady p v) (ok : fits g.objects (object g i) k v ≡ true) where
  abbrev o : Object
  o = object g i

  abbrev oo : Opened
  oo = opened_with m.table w (object g i).kind (length (object g i).cells, (object g i).access)

  both : (takes o.kind k (class_of g.objects v) ≡ true) × (boxed o.kind ≡ false → ltb (entry_of v) (2 ^ bits_of o.access) ≡ true)
  both = taken (takes o.kind k (class_of g.objects v)) (boxed o.kind) (ltb (entry_of v) (2 ^ bits_of o.access)) ok

  saves-cell : boxed o.kind ≡ true → Saves p m g i k v (saved oo k x m.words)
  unfolding Saves
  saves-cell b =
      let a = shows-read-cell 16 p m g s w i h b k l in
      let q : cell_place oo k ≡ word_place m.table o.kind w (heads o.kind + k) = rw (located-is m.table o.kind w) (omega arith) in (
        set m.words (word_place m.table o.kind w (heads o.kind + k)) x,
        saved-cell oo k x m.words (word_place m.table o.kind w (heads o.kind + k)) b q a.0,
        shows-write-cell 16 p m g s w i h b k l x v e st both.0,
      )

  saves-entry : boxed o.kind ≡ false → Saves p m g i k v (saved oo k x m.words)
  unfolding Saves
  saves-entry b =
      let shp = s.rules.shaped i (s.map.range i (means-ref p w i h).0) in
      let five : o.access % 5 ≡ o.access = omega (arith, shp.access_known) in
      let t = entry-taken p g.objects o.kind k x v b both.0 e in
      let n : ℕ = entry_of v in
      let small : n < 2 ^ bits_of o.access = below n (2 ^ bits_of o.access) (both.1 b) in
      let y = shows-entry-word 16 p m g s w i h b k l in
      let place : ℕ = word_place m.table o.kind w (entry_word o k) in
      let q : entry_place oo k ≡ place = rw (five, located-is m.table o.kind w) (omega arith) in
      let num : entry_number x % 2 ^ bits_of (o.access % 5) ≡ n = rw (five, t.0) (mod-small n (2 ^ bits_of o.access) small) in
      let f : entered oo k x (get_or m.words place 0) ≡ packed_word o.access (set (entries o) k n) (k / per_word o.access) =
      rw (num, five, y.1) (packed-with o.access k n (entries o) shp.access_known (shp.entry_small b) (rw (length-map o.cells entry_of) l)) in (
        set m.words place (packed_word o.access (set (entries o) k n) (k / per_word o.access)),
        saved-entry oo k x m.words place (packed_word o.access (set (entries o) k n) (k / per_word o.access)) b q y.0 f,
        rw (← t.1) at (shows-write-entry 16 p m g s w i h b k l n small),
      )
    where
      below : (a b : ℕ) → ltb a b ≡ true → a < b
      below a b z = grind (arith, nat_tests)

      mod-small : (a b : ℕ) → a < b → a % b ≡ a
      mod-small a b z = mod-eq_of_lt z

  pub saves-there : Saves p m g i k v (saved (opened_with m.table w (object g i).kind (length (object g i).cells, (object g i).access)) k x m.words)
  saves-there = elim (cases_Bool (boxed o.kind)) [ inl b ↦ saves-cell b | inr b ↦ saves-entry b ]
