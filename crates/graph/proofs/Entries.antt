-- An entry of an unboxed object replaced.
use Rattle.std.proofs.Common.{◌≡◌, ℕ, ◌+◌, ◌/◌, ◌^◌, ◌<◌, false, ◌≢◌, length, set, sym, refl, ap, ◌∙◌, inl, inr, arith}
use Rattle.std.proofs.lemmas.List.{length-set, length-map, get_or-set_same, get_or-set_other, map-set}
use Rattle.std.proofs.lemmas.Bool.{cases_eq}
use Rattle.words.specs.Packing.{bits_of, per_word, packed_word}
use Rattle.words.proofs.Packing.{packed-other}
use Rattle.graph.specs.Graph.{Immediate, fixnum, character, trap, plain, Kind, uvector, string, bvector, symbol, list, Object, celled}
use Rattle.graph.specs.Shape.{boxed, heads, entries, entry_of, entry_value, exact, want, Shaped}
use Rattle.graph.proofs.Shape.{want-body, want-head, want-cases}

pub entry-back : (κ : Kind) (e : ℕ) → entry_of (entry_value κ e) ≡ e
entry-back uvector e = refl
entry-back string e = refl
entry-back bvector e = refl
entry-back symbol e = refl
entry-back list e = refl

pub entry-plain : (κ : Kind) (e : ℕ) → (x : Immediate) × (entry_value κ e ≡ plain x)
entry-plain uvector e = (fixnum e, refl)
entry-plain string e = (character e, refl)
entry-plain bvector e = (fixnum e, refl)
entry-plain symbol e = (fixnum e, refl)
entry-plain list e = (fixnum e, refl)

pub want_entry : (o : Object) (j : ℕ) → boxed o.kind ≡ false → want o (heads o.kind + j) ≡ exact (packed_word o.access (entries o) j)
want_entry o j b = want-body o j ∙ rw b refl

module _ (o : Object) (k e : ℕ) (b : boxed o.kind ≡ false) where
  abbrev o' : Object
  o' = celled o k (entry_value o.kind e)

  pub entries-celled : entries (celled o k (entry_value o.kind e)) ≡ set (entries o) k e
  entries-celled = map-set entry_of o.cells k (entry_value o.kind e) ∙ ap (set (entries o) k) (entry-back o.kind e)

  pub want-entry-same : want (celled o k (entry_value o.kind e)) (heads o.kind + k / per_word o.access) ≡ exact (packed_word o.access (set (entries o) k e) (k / per_word o.access))
  want-entry-same = want_entry o' (k / per_word o.access) b ∙ ap (λ es. exact (packed_word o.access es (k / per_word o.access))) entries-celled

  module _ (l : o.access < 5) where
    pub want-entry-other : (j : ℕ) → j ≢ heads o.kind + k / per_word o.access → want (celled o k (entry_value o.kind e)) j ≡ want o j
    want-entry-other j d = elim (want-cases o j) [
      | inl h ↦ want-head o' j h ∙ rw (length-set o.cells k (entry_value o.kind e)) (sym (want-head o j h))
      | inr q ↦ let z = q.1 in let n : q.0 ≢ k / per_word o.access = (λ y. d (omega (arith, z, y))) in
          rw z (want_entry o' q.0 b ∙ ap (λ es. exact (packed_word o.access es q.0)) entries-celled ∙ ap exact (packed-other o.access k e q.0 (entries o) l n) ∙ sym (want_entry o q.0 b))
    ]

    pub shaped-entry : Shaped o → k < length o.cells → e < 2 ^ bits_of o.access → Shaped (celled o k (entry_value o.kind e))
    shaped-entry s m small = record {
      thawed = s.thawed;
      counted = rw (length-set o.cells k (entry_value o.kind e)) s.counted;
      access_known = l;
      access_typed = s.access_typed;
      entry_small = λ u j. rw entries-celled (elim (cases_eq j k) [
        | inl z ↦ rw (z, get_or-set_same (entries o) k e 0 len) small
        | inr z ↦ rw (get_or-set_other (entries o) k j e 0 z) (s.entry_small b j)
      ]);
      entry_typed = λ u j h. rw entries-celled (elim (cases_eq j k) [
        | inl z ↦ rw (z, get_or-set_same (entries o) k e 0 len, get_or-set_same o.cells k (entry_value o.kind e) (plain trap) m) refl
        | inr z ↦ rw (get_or-set_other (entries o) k j e 0 z, get_or-set_other o.cells k j (entry_value o.kind e) (plain trap) z) (s.entry_typed b j (rw (length-set o.cells k (entry_value o.kind e)) at h))
      ]);
    }
      where
        len : k < length (entries o)
        len = rw (length-map o.cells entry_of) m
