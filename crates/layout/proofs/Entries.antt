-- (h) Entries of unboxed objects.
use Rattle.std.proofs.Common.{◌≡◌, ℕ, ◌+◌, ◌/◌, ◌%◌, ◌^◌, ◌<◌, false, length, get_or, set, sym, refl, ap, ◌∙◌, arith}
use Rattle.words.specs.Packing.{bits_of, per_word, packed_word}
use Rattle.words.proofs.Packing.{packed-in, packed-read}
use Rattle.graph.specs.Graph.{trap, Value, plain, ref, Object, Graph, object, celled, put_cell}
use Rattle.graph.specs.Shape.{boxed, heads, size, entries, entry_value, Shaped}
use Rattle.graph.proofs.Shape.{size-celled}
use Rattle.graph.proofs.Entries.{entry-plain, want_entry, want-entry-same, want-entry-other, shaped-entry}
use Rattle.layout.specs.Machine.{Machine, word_at, with_words}
use Rattle.layout.specs.Places.{Places, Means}
use Rattle.layout.specs.Shows.{Steady, Shown}
use Rattle.layout.proofs.Meaning.{means-ref}
use Rattle.layout.proofs.Reading.{word_place, place-leads, shows-word}
use Rattle.std.proofs.lemmas.Bool.{true≢false}
use Rattle.graph.proofs.Lawful.{each_set, lawful-cell}
use Rattle.layout.proofs.Writing.{holds-change, rules-change}

-- the place in an unboxed object of the word with entry k
abbrev pub entry_word : Object → ℕ → ℕ
entry_word o k = heads o.kind + k / per_word o.access

module _ (r : ℕ) (p : Places) (m : Machine) (g : Graph) (s : Shown r p m g) (w i : ℕ) (h : Means p false w (ref i)) (b : boxed (object g i).kind ≡ false) (k : ℕ) (l : k < length (object g i).cells) where
  known : i < p.count
  known = s.map.range i (means-ref p w i h).0

  shape : Shaped (object g i)
  shape = s.rules.shaped i known

  in_size : entry_word (object g i) k < size (object g i)
  in_size = rw b (let z = packed-in (object g i).access (length (object g i).cells) k shape.access_known l in omega (arith, z))

  -- the word is in the memory and is the packed one
  pub shows-entry-word : (word_place m.table (object g i).kind w (entry_word (object g i) k) < length m.words) ×
      (word_at m (word_place m.table (object g i).kind w (entry_word (object g i) k)) ≡ packed_word (object g i).access (entries (object g i)) (k / per_word (object g i).access))
  shows-entry-word = let z = shows-word r p m g s w i h (entry_word (object g i) k) in_size in
      (z.0, rw (want_entry (object g i) (k / per_word (object g i).access) b) at z.1)

  -- the entry is cell k
  pub shows-read-entry : entry_value (object g i).kind (word_at m (word_place m.table (object g i).kind w (entry_word (object g i) k)) / (2 ^ bits_of (object g i).access) ^ (k % per_word (object g i).access) % 2 ^ bits_of (object g i).access)
      ≡ get_or (object g i).cells k (plain trap)
  shows-read-entry =
      rw shows-entry-word.1 (ap (entry_value (object g i).kind) (packed-read (object g i).access k (entries (object g i)) shape.access_known (shape.entry_small b))
      ∙ sym (shape.entry_typed b k l))

  -- an entry is written: the new word is the packed word of the entries with this one replaced
  pub shows-write-entry : (e : ℕ) → e < 2 ^ bits_of (object g i).access →
      Shown r p (with_words m (set m.words (word_place m.table (object g i).kind w (entry_word (object g i) k)) (packed_word (object g i).access (set (entries (object g i)) k e) (k / per_word (object g i).access))))
      (put_cell g i k (entry_value (object g i).kind e))
  shows-write-entry e small =
      let a = means-ref p w i h in
      let v : Value = entry_value (object g i).kind e in
      let x = entry-plain (object g i).kind e in
      let z : entry_word (object g i) k < p.size i = (let y = in_size in omega (arith, s.memory.size_is i known, y)) in
      rw (place-leads p m.table s.frame s.map w i h (object g i).kind (s.memory.kind_is i known) (entry_word (object g i) k))
      (record {
        frame = s.frame;
        map = s.map;
        filled = s.filled;
        counts = s.counts;
        roots = s.roots;
        edits = s.edits;
        space = s.space;
        lawful = lawful-cell g s.lawful i k v (omega (arith, known, s.memory.count_is)) (rw x.1 tt) (λ y. absurd (true≢false (sym y ∙ b)));
        sound = s.sound;
        memory = holds-change p m.table m.words g.objects s.frame s.map s.memory i (entry_word (object g i) k) (packed_word (object g i).access (set (entries (object g i)) k e) (k / per_word (object g i).access))
            (celled (object g i) k (entry_value (object g i).kind e)) a.0 z refl refl (size-celled (object g i) k (entry_value (object g i).kind e)) (want-entry-other (object g i) k e b shape.access_known)
            (rw (want-entry-same (object g i) k e b) refl);
        rules = rules-change p m.table g.objects s.rules i (celled (object g i) k (entry_value (object g i).kind e)) known s.memory.count_is refl (shaped-entry (object g i) k e b shape.access_known shape l small)
            (λ q j. each_set (Steady p) (object g i).cells k (entry_value (object g i).kind e) (rw x.1 tt) (λ y. s.rules.closed i y known q) j);
      })
