-- What is read from a cell or an entry means what the graph has there.
use Rattle.std.proofs.Common.{◌≡◌, ℕ, zero, suc, ◌+◌, ◌/◌, ◌%◌, ◌^◌, ◌<◌, ◌≤◌, Bool, true, false, not, ◌&&◌, ◌||◌, eqb, ◌⊎◌, List, length, get_or, Some, Ok, Err, Result, sym, refl, ap, ◌∙◌, inl, inr, arith}
use Rattle.std.proofs.lemmas.Bool.Decides.{nat_tests}
use Rattle.std.proofs.lemmas.Bool.{cases_eq, cases_Bool, eq-eqb, ne_eqb, true≢false}
use Rattle.words.specs.Words.{space_of, count_of}
use Rattle.words.specs.Packing.{bits_of, per_word, packed_word, entry_of}
use Rattle.words.proofs.Packing.{packed-in, packed-entry}
use Rattle.kinds.specs.declared.kind.Class.{Class}
use Rattle.kinds.specs.declared.kind.Class.TheVariants.{Fixnum, Character, Null, Unset, Pointer}
use Rattle.kinds.specs.Kinds.{least, boxed, heads, takes, lacks, is_unset, entry_word, word_class, accessible}
use Rattle.answers.specs.declared.Refusal.{Refusal}
use Rattle.answers.specs.declared.Refusal.TheVariants.{Unset as no_value}
use Rattle.graph.specs.Graph.{fixnum, character, null, trap, Value, plain, ref, Kind, uvector, string, bvector, symbol, list, Object, Graph, object}
use Rattle.graph.specs.Shape.{size, entries, entry_value}
use Rattle.graph.specs.Lawful.{class_of, holds}
use Rattle.graph.specs.Calls.{is_dynamic}
use Rattle.graph.proofs.Shape.{want-cell, size-boxed}
use Rattle.graph.proofs.Entries.{want_entry}
use Rattle.layout.specs.Machine.{Table, Machine, window, dirty, old_space, now_space, word_at}
use Rattle.layout.specs.Places.{Places, space_now, new_window, new_address, Means}
use Rattle.layout.specs.Shows.{Shown, Steady}
use Rattle.layout.proofs.Meaning.{means-ref}
use Rattle.layout.proofs.Windows.{new-below, space-new, now-below}
use Rattle.layout.proofs.Reading.{leads}
use Rattle.store.specs.Checks.{in_use, reaches}
use Rattle.objects.specs.declared.opened.Opened.{Opened}
use Rattle.objects.specs.Open.{fetched, located, opened_with}
use Rattle.cells.specs.Cells.{cell_place, entry_place, leads_on, believed, loaded}
use Rattle.laws.proofs.Registers.{kind-code, word-class, word-dynamic}
use Rattle.laws.proofs.Opening.{least_size, in-use-part, fetched-there, located-there, word-there}

-- a cell that may hold nothing yet has no value only where its kind starts so
unset-lacks : (κ : Kind) (k : ℕ) (c : Class) → holds κ k c ≡ true → is_unset c ≡ true → lacks κ k ≡ true
unset-lacks uvector k Unset h u = absurd (true≢false (sym h))
unset-lacks string k Unset h u = absurd (true≢false (sym h))
unset-lacks bvector k Unset h u = absurd (true≢false (sym h))
unset-lacks symbol k Unset h u = grind (arith, nat_tests)
unset-lacks list k Unset h u = absurd (true≢false (sym h))
unset-lacks κ k Fixnum h u = absurd (true≢false (sym u))
unset-lacks κ k Character h u = absurd (true≢false (sym u))
unset-lacks κ k Null h u = absurd (true≢false (sym u))
unset-lacks κ k (Pointer μ) h u = absurd (true≢false (sym u))

set-takes : (κ : Kind) (k : ℕ) (c : Class) → holds κ k c ≡ true → is_unset c ≡ false → takes κ k c ≡ true
set-takes κ k c h u = go (takes κ k c) (lacks κ k) h
  where
    go : (a b : Bool) → (a || (b && is_unset c)) ≡ true → a ≡ true
    go true b z = refl
    go false true z = absurd (true≢false (sym z ∙ u))
    go false false z = absurd (true≢false (sym z))

-- only a read-only object lies in space 3
pub space-three : (now s : ℕ) → now < 2 → now_space now s ≡ 3 → s ≡ 3
space-three now s a e = elim (cases_eq s 0) [ inl z ↦ absurd (grind (arith, nat_tests)) | inr z ↦ grind (arith, nat_tests) ]

-- what is known of a cell's word makes it believed, or tells that it has no value
believed-unset : (t : Table) (o : Opened) (k w : ℕ) (c : Class) → word_class w ≡ Some c → is_unset c ≡ true → lacks o.kind k ≡ true → believed t o k w ≡ Err no_value
unfolding believed
believed-unset t o k w c e u l = rw (e, u, l) refl

believed-set : (t : Table) (o : Opened) (k w : ℕ) (c : Class) → word_class w ≡ Some c → is_unset c ≡ false → leads_on t o w c ≡ true → takes o.kind k c ≡ true → believed t o k w ≡ Ok w
unfolding believed
believed-set t o k w c e u l f = rw (e, u, l, f) refl

loaded-cell : (t : Table) (ws : List ℕ) (o : Opened) (k w : ℕ) → boxed o.kind ≡ true → fetched ws (cell_place o k) ≡ Ok w → loaded t ws o k ≡ believed t o k w
unfolding loaded
loaded-cell t ws o k w b f = rw (b, f) refl

loaded-entry : (t : Table) (ws : List ℕ) (o : Opened) (k w : ℕ) → boxed o.kind ≡ false → fetched ws (entry_place o k) ≡ Ok w → loaded t ws o k ≡ Ok (entry_word o.kind (entry_of w (o.access % 5) k))
unfolding loaded
loaded-entry t ws o k w b f = rw (b, f) refl

-- an entry's word means the entry
pub entry-means : (p : Places) (κ : Kind) (a e : ℕ) → boxed κ ≡ false → accessible κ a ≡ true → e < 2 ^ bits_of a → e < 65536 → Means p false (entry_word κ e) (entry_value κ e)
entry-means p uvector a e b h l n = let z : count_of e ≡ e = omega arith in (rw z refl, omega arith)
entry-means p string a e b h l n =
    let three : a ≡ 3 = grind (arith, nat_tests) in
    let small : e < 256 = (rw three at l) in
    let z : e % 256 ≡ e = omega arith in (rw z refl, omega arith)
entry-means p bvector a e b h l n = absurd (true≢false b)
entry-means p symbol a e b h l n = absurd (true≢false b)
entry-means p list a e b h l n = absurd (true≢false b)

pub entry-bound : (a : ℕ) → a < 5 → 2 ^ bits_of a ≤ 65536
entry-bound zero l = omega arith
entry-bound (suc zero) l = omega arith
entry-bound (suc (suc zero)) l = omega arith
entry-bound (suc (suc (suc zero))) l = omega arith
entry-bound (suc (suc (suc (suc zero)))) l = omega arith
entry-bound (suc (suc (suc (suc (suc a))))) l = absurd (omega arith)

entry_set : (os : List Object) (κ : Kind) (e : ℕ) → is_unset (class_of os (entry_value κ e)) ≡ false
entry_set os uvector e = refl
entry_set os string e = refl
entry_set os bvector e = refl
entry_set os symbol e = refl
entry_set os list e = refl

-- a value was read, or the cell has none
abbrev pub Loads : Places → Graph → Value → Result ℕ Refusal → Type 0
Loads p g v r = ((is_unset (class_of g.objects v) ≡ true) × (r ≡ Err no_value)) ⊎ ((is_unset (class_of g.objects v) ≡ false) × ((x : ℕ) × (r ≡ Ok x) × Means p false x v))

module _ (p : Places) (m : Machine) (g : Graph) (s : Shown 16 p m g) (clean : (l x : ℕ) → dirty m.table l x ≡ false) (w i : ℕ) (h : Means p false w (ref i)) (k : ℕ) (l : k < length (object g i).cells) where
  abbrev t : Table
  t = m.table

  abbrev o : Object
  o = object g i

  abbrev oo : Opened
  oo = opened_with m.table w (object g i).kind (length (object g i).cells, (object g i).access)

  placed : p.placed i ≡ true
  placed = (means-ref p w i h).0

  known : i < p.count
  known = s.map.range i placed

  there : i < length g.objects
  there = omega (arith, known, s.memory.count_is)

  -- a pointer in a cell leads to an object that may be reached from there
  leads-on : (x : ℕ) (v : Value) → Means p false x v → (p.space i ≡ 3 → Steady p v) → leads_on t oo x (class_of g.objects v) ≡ true
  unfolding reaches
  leads-on x (plain (fixnum d)) e st = refl
  leads-on x (plain (character c)) e st = refl
  leads-on x (plain null) e st = refl
  leads-on x (plain trap) e st = refl
  leads-on x (ref j) e st =
      let q = leads p t s.frame s.map x j e in
      let a = means-ref p x j e in
      let n = s.map.range j a.0 in
      let shp = s.rules.shaped j n in
      let sz = s.memory.size_is j n in
      let new : eqb (space_now p j) (old_space t.now) ≡ false = ne_eqb (space_now p j) (old_space t.now) (λ z. space-new p t s.frame s.map j n (z ∙ ap old_space (sym s.map.now_is))) in
      let used : in_use t (window (p.kind j) (space_now p j)) (p.new j) (least (p.kind j)) ≡ true =
      in-use-part t (new_window p j) (p.new j) (least (p.kind j)) (p.size j) (new-below p t s.frame s.map j a.0) (s.map.inside j a.0) (s.map.in_use j a.0) (rw (sz, s.memory.kind_is j n) (least_size (object g j) shp)) in
      rw (q.type-is, kind-code (p.kind j), q.space_is, q.place_is, new, used, word-dynamic 16 p m g s x (ref j) e) (steady-here j n st)
    where
      steady-here : (j : ℕ) → j < p.count → (p.space i ≡ 3 → Steady p (ref j)) → not (eqb (space_of w) 3 && is_dynamic g.objects (ref j)) ≡ true
      steady-here j n st = elim (cases_eq (space_of w) 3) [
        | inl e ↦ (let q = leads p t s.frame s.map w i h in
            let y = st (space-three p.now (p.space i) (now-below p t s.frame s.map) (sym q.space_is ∙ e)) in
            let z : eqb (object g j).space 0 ≡ false = ne_eqb (object g j).space 0 (λ u. y.1 (s.memory.space_is j n ∙ u)) in
            rw (eq-eqb (space_of w) 3 e, z) refl)
        | inr d ↦ rw (ne_eqb (space_of w) 3 d) refl
      ]

  -- the word at the object's word k
  fetched-word : (n : ℕ) → n < size o → fetched m.words (located t o.kind w + n) ≡ Ok (word_at m (new_address t p i + n))
  fetched-word n b = rw (located-there p m g s w i h) (fetched-there m.words (new_address t p i + n) (word-there p m g s w i h n b).0)

  loaded-boxed : boxed o.kind ≡ true → Loads p g (get_or o.cells k (plain trap)) (loaded t m.words oo k)
  loaded-boxed b =
      let n : heads o.kind + k < size o = omega (arith, size-boxed o b, l) in
      let x : ℕ = word_at m (new_address t p i + (heads o.kind + k)) in
      let a : located t o.kind w + heads o.kind + k ≡ located t o.kind w + (heads o.kind + k) = omega arith in
      let f : fetched m.words (cell_place oo k) ≡ Ok x = rw a (fetched-word (heads o.kind + k) n) in
      let z : Means p false x (get_or o.cells k (plain trap)) = rw (want-cell o k b, clean (new_window p i) (p.new i + (heads o.kind + k))) at (word-there p m g s w i h (heads o.kind + k) n).1 in
      let c = word-class 16 p m g s x (get_or o.cells k (plain trap)) z in
      let ty = s.lawful.cells_typed i k there b l in
      let e = loaded-cell t m.words oo k x b f in
      elim (cases_Bool (is_unset (class_of g.objects (get_or o.cells k (plain trap))))) [
        | inl u ↦ inl (u, e ∙ believed-unset t oo k x (class_of g.objects (get_or o.cells k (plain trap))) c u (unset-lacks o.kind k (class_of g.objects (get_or o.cells k (plain trap))) ty u))
        | inr u ↦ inr (
          u,
          (
            x,
            e ∙ believed-set t oo k x (class_of g.objects (get_or o.cells k (plain trap))) c u (leads-on x (get_or o.cells k (plain trap)) z (λ q. s.rules.closed i k known q))
                (set-takes o.kind k (class_of g.objects (get_or o.cells k (plain trap))) ty u),
            z,
          ),
        )
      ]

  loaded-packed : boxed o.kind ≡ false → Loads p g (get_or o.cells k (plain trap)) (loaded t m.words oo k)
  loaded-packed b =
      let shp = s.rules.shaped i known in
      let n : heads o.kind + k / per_word o.access < size o = in_size b in
      let five : o.access % 5 ≡ o.access = omega (arith, shp.access_known) in
      let a : located t o.kind w + heads o.kind + k / per_word o.access ≡ located t o.kind w + (heads o.kind + k / per_word o.access) = omega arith in
      let x : ℕ = word_at m (new_address t p i + (heads o.kind + k / per_word o.access)) in
      let f : fetched m.words (entry_place oo k) ≡ Ok x = rw (five, a) (fetched-word (heads o.kind + k / per_word o.access) n) in
      let y : x ≡ packed_word o.access (entries o) (k / per_word o.access) = rw (want_entry o (k / per_word o.access) b) at (word-there p m g s w i h (heads o.kind + k / per_word o.access) n).1 in
      let e : entry_of x (o.access % 5) k ≡ get_or (entries o) k 0 = rw (five, y) (packed-entry o.access k (entries o) shp.access_known (shp.entry_small b)) in
      let v : get_or o.cells k (plain trap) ≡ entry_value o.kind (get_or (entries o) k 0) = shp.entry_typed b k l in
      let small = shp.entry_small b k in
      let bound = entry-bound o.access shp.access_known in
      rw v (inr (
        entry_set g.objects o.kind (get_or (entries o) k 0),
        (
          entry_word o.kind (get_or (entries o) k 0),
          loaded-entry t m.words oo k x b f ∙ ap (λ q. Ok (entry_word o.kind q)) e,
          entry-means p o.kind o.access (get_or (entries o) k 0) b shp.access_typed small (omega (arith, small, bound)),
        ),
      ))
    where
      in_size : boxed o.kind ≡ false → heads o.kind + k / per_word o.access < size o
      in_size b = rw b (let z = packed-in o.access (length o.cells) k (s.rules.shaped i known).access_known l in omega (arith, z))

  pub loaded-there : Loads p g (get_or (object g i).cells k (plain trap)) (loaded m.table m.words (opened_with m.table w (object g i).kind (length (object g i).cells, (object g i).access)) k)
  loaded-there = elim (cases_Bool (boxed o.kind)) [ inl b ↦ loaded-boxed b | inr b ↦ loaded-packed b ]
