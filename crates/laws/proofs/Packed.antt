-- The makings of strings and words.
use Rattle.std.proofs.Common.{◌≡◌, ℕ, zero, suc, ◌+◌, ◌*◌, ◌%◌, ◌^◌, ◌<◌, ◌≤◌, Bool, true, false, ◌&&◌, eqb, ltb, leb, List, [], ◌∷◌, ◌++◌, length, get_or, replicate, Result, sym, refl, ◌∙◌, arith}
use Rattle.std.proofs.lemmas.Bool.{leb-true, ltb-false, lt-ltb, and_parts, and_right, true≢false}
use Rattle.std.proofs.lemmas.List.{length-replicate, get_or-replicate}
use Rattle.words.specs.Words.{header_word, entries_word}
use Rattle.kinds.specs.Kinds.{accessible}
use Rattle.answers.specs.declared.Refusal.{Refusal}
use Rattle.answers.specs.declared.Refusal.TheVariants.{OutOfBounds, DynamicInReadOnly, NoRoom}
use Rattle.graph.specs.Graph.{fixnum, character, trap, Value, plain, Kind, uvector, string, Object}
use Rattle.graph.specs.Shape.{boxed, heads, size, entries, entry_value, head_word, body_want, want, Counted}
use Rattle.words.specs.Packing.{bits_of, per_word, packed_count}
use Rattle.graph.specs.Lawful.{Known}
use Rattle.graph.specs.Calls.{State, new_object, is_dynamic, any_dynamic, leaks, full, added, make_string, make_words, max_count}
use Rattle.graph.proofs.Entries.{entry-plain}
use Rattle.layout.specs.Machine.{Machine}
use Rattle.layout.specs.Ordered.{Ordered}
use Rattle.layout.specs.Places.{Fits}
use Rattle.making.specs.Make.{made}
use Rattle.making.specs.Makings.{packed_made, string_made, words_made}
use Rattle.promises.specs.Promise.{Depicts, Answers, Stays, Sticks, short}
use Rattle.laws.proofs.Admission.{Did, turned-one, admission-did, admission-stays, admission-sticks}
use Rattle.laws.proofs.Testing.{did-test, stays-test, turned_two}
use Rattle.laws.proofs.MadeLaw.{made-did}
use Rattle.laws.proofs.MadeStays.{made-stays}
use Rattle.laws.proofs.NewObjects.{each-replicate, any-replicate, entries-zero, pack-zero, shaped-packed, fit_words}

abbrev words_for : ℕ → ℕ → List ℕ
words_for a count = (header_word ((packed_count (a % 5) count + 2) % 16777216) ∷ entries_word (a % 16) (count % 268435456) ∷ []) ++ replicate (packed_count (a % 5) count) 0

-- the words of count entries that are all 0
abbrev zeros_for : ℕ → ℕ → List ℕ
zeros_for a count = replicate (packed_count (a % 5) count) 0

-- so many entries take few words
few_words : (a n : ℕ) → a < 5 → n ≤ 65534 → packed_count a n < 65535
few_words zero n l h = omega arith
few_words (suc zero) n l h = omega arith
few_words (suc (suc zero)) n l h = omega arith
few_words (suc (suc (suc zero))) n l h = omega arith
few_words (suc (suc (suc (suc zero)))) n l h = omega arith
few_words (suc (suc (suc (suc (suc a))))) n l h = absurd (omega arith)

-- a refusal that does not apply
did-skip : {A : Type 0} (s done : State) (c : Bool) (e : Refusal) (rest : List (Bool × Refusal)) (answer : A) (x : Machine × Result A Refusal) → c ≡ false → Did rest answer done s x → Did ((c, e) ∷ rest) answer done s x
did-skip s done true e rest answer x q h = absurd (true≢false q)
did-skip s done false e rest answer x q h = h

-- an unboxed object is made, its entries all 0
module _ (m : Machine) (s : State) (d : Depicts m s) (to : ℕ) (κ : Kind) (a count : ℕ) (b : boxed κ ≡ false) (two : heads κ ≡ 2) (below : a < 5) (access : accessible κ a ≡ true) (small : count ≤ 65534) (counted : Counted κ count) where
  abbrev o : Object
  o = new_object s κ a (replicate count (entry_value κ 0))

  abbrev vs : List Value
  vs = replicate count (entry_value κ 0)

  many : length (replicate count (entry_value κ 0)) ≡ count
  many = length-replicate count (entry_value κ 0)

  same-five : a % 5 ≡ a
  same-five = omega arith

  same-sixteen : a % 16 ≡ a
  same-sixteen = omega arith

  size_is : size (new_object s κ a (replicate count (entry_value κ 0))) ≡ 2 + packed_count a count
  size_is = rw (b, two, many) refl

  head : (k : ℕ) → k < heads κ → get_or (header_word ((packed_count (a % 5) count + 2) % 16777216) ∷ entries_word (a % 16) (count % 268435456) ∷ []) k 0 ≡ head_word (new_object s κ a (replicate count (entry_value κ 0))) k
  head zero l = rw (same-five, size_is) (omega (arith, few_words a count below small))
  head (suc zero) l = rw (same-sixteen, many) (omega (arith, small))
  head (suc (suc k)) l = absurd (omega (arith, two))

  body : (k : ℕ) → k < length (zeros_for a count) →
      Fits d.shows.0 false (get_or (zeros_for a count) k 0) (body_want (new_object s κ a (replicate count (entry_value κ 0))) k)
  body k l =
      rw b (get_or-replicate {A = ℕ} (packed_count (a % 5) count) k 0 0 (rw (length-replicate {A = ℕ} (packed_count (a % 5) count) 0) at l) ∙
      sym (pack-zero (2 ^ bits_of a) (per_word a) (entries o) (k * per_word a) (entries-zero κ count)))

  length-words : length (words_for a count) ≡ heads κ + length (zeros_for a count)
  length-words = rw two (omega arith)

  length-is : length (words_for a count) ≡ size (new_object s κ a (replicate count (entry_value κ 0)))
  length-is = rw (size_is, length-words, length-replicate {A = ℕ} (packed_count (a % 5) count) 0, same-five, two) refl

  fit : (k : ℕ) → k < size (new_object s κ a (replicate count (entry_value κ 0))) → Fits d.shows.0 false (get_or (words_for a count) k 0) (want (new_object s κ a (replicate count (entry_value κ 0))) k)
  fit k l =
      fit_words d.shows.0 o (header_word ((packed_count (a % 5) count + 2) % 16777216) ∷ entries_word (a % 16) (count % 268435456) ∷ []) (zeros_for a count) (sym two) head body k
      (omega (arith, l, length-is, length-words))

  none : any_dynamic s.graph.objects (replicate count (entry_value κ 0)) ≡ false
  none = any-replicate s.graph.objects count (entry_value κ 0) ∙ and_right (ltb 0 count) (is_dynamic s.graph.objects (entry_value κ 0)) (plain_entry κ)
    where
      plain_entry : (μ : Kind) → is_dynamic s.graph.objects (entry_value μ 0) ≡ false
      plain_entry μ = rw (entry-plain μ 0).1 refl

  known : (k : ℕ) → Known s.graph.objects (get_or (replicate count (entry_value κ 0)) k (plain trap))
  known k = each-replicate (Known s.graph.objects) count (entry_value κ 0) (rw (entry-plain κ 0).1 tt) tt k

  unboxed-did : Did ((leaks s (new_object s κ a (replicate count (entry_value κ 0))), DynamicInReadOnly) ∷ (full s (new_object s κ a (replicate count (entry_value κ 0))), NoRoom) ∷ []) 0
      (added s (new_object s κ a (replicate count (entry_value κ 0))) to) s (made κ m.space (words_for a count) to m)
  unboxed-did =
      did-skip s (added s o to) (leaks s o) DynamicInReadOnly ((full s o, NoRoom) ∷ []) 0 (made κ m.space (words_for a count) to m) sealed
      (made-did m s d o (shaped-packed s κ a count below access counted) refl refl known (λ u. absurd (true≢false (sym u ∙ b))) (words_for a count) length-is fit to sealed)
    where
      sealed : leaks s (new_object s κ a (replicate count (entry_value κ 0))) ≡ false
      sealed = and_right (eqb s.graph.space 3) (any_dynamic s.graph.objects vs) none

-- the refusals of a packed making after the first two
abbrev refusals_of : State → Object → ℕ → List (Bool × Refusal)
refusals_of s o count = (ltb max_count count, OutOfBounds) ∷ (leaks s o, DynamicInReadOnly) ∷ (full s o, NoRoom) ∷ []

packed-did : (m : Machine) (s : State) → Depicts m s → (to : ℕ) (κ : Kind) (a count : ℕ) → boxed κ ≡ false → heads κ ≡ 2 → a < 5 → accessible κ a ≡ true → (count < 65535 → Counted κ count) →
    Did (refusals_of s (new_object s κ a (replicate count (entry_value κ 0))) count) 0 (added s (new_object s κ a (replicate count (entry_value κ 0))) to) s (packed_made κ a count to m)
unfolding packed_made
packed-did m s d to κ a count b two below access counted =
    did-test m s (added s o to) (ltb 65534 count) (ltb max_count count) OutOfBounds ((leaks s o, DynamicInReadOnly) ∷ (full s o, NoRoom) ∷ []) 0 (made κ m.space (words_for a count) to m) d refl
    (λ e. let l = ltb-false 65534 count e in unboxed-did m s d to κ a count b two below access l (counted (omega (arith, l))))
  where
    o : Object
    o = new_object s κ a (replicate count (entry_value κ 0))

packed-stays : (m : Machine) (to : ℕ) (κ : Kind) (a count : ℕ) → Ordered m.table.starts m.table.lows m.table.highs → m.table.now < 2 → m.space < 4 →
    Stays m (packed_made κ a count to m).0 (packed_made κ a count to m).1
unfolding packed_made
packed-stays m to κ a count o now known = stays-test m (ltb 65534 count) OutOfBounds (made κ m.space (words_for a count) to m) (λ _. made-stays κ m.space (words_for a count) to m o now known)

module _ (control bindings to count : ℕ) (m : Machine) where
  pub string-answers : Answers (make_string (short m control bindings) to count) m (string_made control bindings to count m).0 (string_made control bindings to count m).1
  unfolding string_made
  string-answers s d =
      rw (turned-one to 15) (admission-did control bindings (leb to 15) (packed_made string 3 count to) m (refusals_of s o count) 0 (added s o to) s d
      (λ _ _. packed-did m s d to string 3 count refl refl (omega arith) refl (λ l. l)))
    where
      o : Object
      o = new_object s string 3 (replicate count (plain (character 0)))

  pub string-stays : Ordered m.table.starts m.table.lows m.table.highs → m.table.now < 2 → m.space < 4 → Stays m (string_made control bindings to count m).0 (string_made control bindings to count m).1
  unfolding string_made
  string-stays o now known = admission-stays control bindings (leb to 15) (packed_made string 3 count to) m (λ _ _. packed-stays m to string 3 count o now known)

  pub string-sticks : Sticks m (string_made control bindings to count m).1
  unfolding string_made
  string-sticks = admission-sticks control bindings (leb to 15) (packed_made string 3 count to) m

module _ (control bindings to count access : ℕ) (m : Machine) where
  pub words-answers : Answers (make_words (short m control bindings) to count access) m (words_made control bindings to count access m).0 (words_made control bindings to count access m).1
  unfolding words_made
  words-answers s d =
      rw (turned_two to access 4) (admission-did control bindings (leb to 15 && leb access 4) (packed_made uvector access count to) m (refusals_of s o count) 0 (added s o to) s d (λ k _. inner k))
    where
      o : Object
      o = new_object s uvector access (replicate count (plain (fixnum 0)))

      inner : (leb to 15 && leb access 4) ≡ true → Did (refusals_of s o count) 0 (added s o to) s (packed_made uvector access count to m)
      inner k =
          let l : access < 5 = omega (arith, leb-true access 4 (and_parts (leb to 15) (leb access 4) k).1) in
          packed-did m s d to uvector access count refl refl l (lt-ltb access 5 l) (λ z. z)

  pub words-stays : Ordered m.table.starts m.table.lows m.table.highs → m.table.now < 2 → m.space < 4 → Stays m (words_made control bindings to count access m).0 (words_made control bindings to count access m).1
  unfolding words_made
  words-stays o now known = admission-stays control bindings (leb to 15 && leb access 4) (packed_made uvector access count to) m (λ _ _. packed-stays m to uvector access count o now known)

  pub words-sticks : Sticks m (words_made control bindings to count access m).1
  unfolding words_made
  words-sticks = admission-sticks control bindings (leb to 15 && leb access 4) (packed_made uvector access count to) m
