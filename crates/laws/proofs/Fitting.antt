-- What a cell or entry can take, and whether its object is frozen, in memory and in the graph.
use Rattle.std.proofs.Common.{◌≡◌, ℕ, ◌%◌, ◌^◌, ◌<◌, Bool, true, false, ◌&&◌, ◌||◌, eqb, ltb, List, length, get_or, Some, sym, refl, ap, ◌∙◌, inl, inr, arith}
use Rattle.std.proofs.lemmas.Bool.Decides.{nat_tests}
use Rattle.std.proofs.lemmas.Bool.{cases_eq, eq-eqb, ne_eqb, true≢false}
use Rattle.words.specs.Words.{space_of, pointer_of, words_of, character_word}
use Rattle.words.specs.Packing.{bits_of}
use Rattle.words.proofs.Coding.{type_of-fixnum, type_of-character, count_of-fixnum}
use Rattle.kinds.specs.declared.kind.Class.{Class}
use Rattle.kinds.specs.Kinds.{index, boxed, takes, word_class, entry_number}
use Rattle.graph.specs.Graph.{fixnum, character, null, trap, Value, plain, ref, Kind, uvector, string, bvector, symbol, list, Object, Graph, object}
use Rattle.graph.specs.Shape.{entry_of, entry_value}
use Rattle.graph.specs.Lawful.{class_of}
use Rattle.graph.specs.Calls.{fits}
use Rattle.layout.specs.Machine.{Table, Machine, now_space}
use Rattle.layout.specs.Places.{Places, Means}
use Rattle.layout.specs.Shows.{Shown}
use Rattle.layout.proofs.Meaning.{means-ref}
use Rattle.layout.proofs.Windows.{now-below}
use Rattle.layout.proofs.Reading.{leads}
use Rattle.objects.specs.declared.opened.Opened.{Opened}
use Rattle.objects.specs.Open.{opened_with}
use Rattle.cells.specs.Cells.{fits_cell, frozen_cell}
use Rattle.laws.proofs.Registers.{word-class}

character-number : (c : ℕ) → c < 256 → words_of (character_word c) ≡ c
character-number c l = omega arith

-- a value that an unboxed object takes is an entry, and its word has its number
pub entry-taken : (p : Places) (os : List Object) (κ : Kind) (k w : ℕ) (v : Value) → boxed κ ≡ false → takes κ k (class_of os v) ≡ true → Means p false w v → (entry_number w ≡ entry_of v) × (v ≡ entry_value κ (entry_of v))
entry-taken p os uvector k w (plain (fixnum d)) b t h = (rw (h.0, type_of-fixnum d h.1) (count_of-fixnum d h.1), refl)
entry-taken p os uvector k w (plain (character c)) b t h = absurd (true≢false (sym t))
entry-taken p os uvector k w (plain null) b t h = absurd (true≢false (sym t))
entry-taken p os uvector k w (plain trap) b t h = absurd (true≢false (sym t))
entry-taken p os uvector k w (ref i) b t h = absurd (true≢false (sym t))
entry-taken p os string k w (plain (fixnum d)) b t h = absurd (true≢false (sym t))
entry-taken p os string k w (plain (character c)) b t h = (rw (h.0, type_of-character c h.1) (character-number c h.1), refl)
entry-taken p os string k w (plain null) b t h = absurd (true≢false (sym t))
entry-taken p os string k w (plain trap) b t h = absurd (true≢false (sym t))
entry-taken p os string k w (ref i) b t h = absurd (true≢false (sym t))
entry-taken p os bvector k w v b t h = absurd (true≢false b)
entry-taken p os symbol k w v b t h = absurd (true≢false b)
entry-taken p os list k w v b t h = absurd (true≢false b)

fits_by : (o : Opened) (k w a : ℕ) (c : Class) → word_class w ≡ Some c → o.access % 5 ≡ a → fits_cell o k w ≡ (takes o.kind k c && (boxed o.kind || ltb (entry_number w) (2 ^ bits_of a)))
unfolding fits_cell
fits_by o k w a c e f = rw (e, f) refl

fits-same : (t b x y : Bool) → (t ≡ true → b ≡ false → x ≡ y) → (t && (b || x)) ≡ (t && (b || y))
fits-same true true x y f = refl
fits-same true false x y f = f refl refl
fits-same false b x y f = refl

frozen-by : (t : Table) (o : Opened) → frozen_cell t o ≡ (eqb o.space 3 && ltb o.offset (get_or t.frozen (index o.kind) 0))
unfolding frozen_cell
frozen-by t o = refl

three-same : (now s : ℕ) → now < 2 → eqb (now_space now s) 3 ≡ eqb s 3
three-same now s a = elim (cases_eq s 0) [ inl e ↦ grind (arith, nat_tests) | inr d ↦ grind (arith, nat_tests) ]

module _ (p : Places) (m : Machine) (g : Graph) (s : Shown 16 p m g) (w i : ℕ) (h : Means p false w (ref i)) where
  abbrev o : Object
  o = object g i

  abbrev oo : Opened
  oo = opened_with m.table w (object g i).kind (length (object g i).cells, (object g i).access)

  known : i < p.count
  known = s.map.range i (means-ref p w i h).0

  pub fits-there : (k x : ℕ) (v : Value) → Means p false x v → fits_cell (opened_with m.table w (object g i).kind (length (object g i).cells, (object g i).access)) k x ≡ fits g.objects (object g i) k v
  fits-there k x v e =
      let shp = s.rules.shaped i known in
      let five : o.access % 5 ≡ o.access = omega (arith, shp.access_known) in
      fits_by oo k x o.access (class_of g.objects v) (word-class 16 p m g s x v e) five
      ∙ fits-same (takes o.kind k (class_of g.objects v)) (boxed o.kind) (ltb (entry_number x) (2 ^ bits_of o.access)) (ltb (entry_of v) (2 ^ bits_of o.access))
      (λ t b. ap (λ n. ltb n (2 ^ bits_of o.access)) (entry-taken p g.objects o.kind k x v b t e).0)

  pub read-only-there : eqb (space_of w) 3 ≡ eqb (object g i).space 3
  read-only-there =
      let l = leads p m.table s.frame s.map w i h in
      rw l.space_is (three-same p.now (p.space i) (now-below p m.table s.frame s.map) ∙ ap (λ q. eqb q 3) (s.memory.space_is i known))

  pub frozen-there : frozen_cell m.table (opened_with m.table w (object g i).kind (length (object g i).cells, (object g i).access)) ≡ (object g i).frozen
  frozen-there =
      let l = leads p m.table s.frame s.map w i h in
      frozen-by m.table oo ∙ ap (λ b. b && ltb (pointer_of w) (get_or m.table.frozen (index o.kind) 0)) read-only-there ∙ (elim (cases_eq o.space 3) [
        | inl e ↦ rw (eq-eqb o.space 3 e, l.place_is, ← s.memory.kind_is i known) (sym (s.rules.frozen_is i known (s.memory.space_is i known ∙ e)))
        | inr d ↦ rw (ne_eqb o.space 3 d) (sym ((s.rules.shaped i known).thawed d))
      ])
