-- New objects are shaped, and the words that are written for them fit.
use Rattle.std.proofs.Common.{◌≡◌, ℕ, zero, suc, ◌+◌, ◌<◌, Bool, true, false, ◌&&◌, ◌||◌, ltb, List, [], ◌∷◌, ◌++◌, map, length, get_or, replicate, sym, refl, ◌∙◌, inl, inr, arith}
use Rattle.std.proofs.lemmas.Bool.{cases_lt, lt-ltb, true≢false}
use Rattle.std.proofs.lemmas.List.{length-replicate, get_or-replicate, get_or_past, get_or_append_left, get_or-append-add}
use Rattle.std.proofs.lemmas.Nat.{pow_pos}
use Rattle.words.specs.Packing.{bits_of, pack}
use Rattle.kinds.specs.Kinds.{accessible}
use Rattle.graph.specs.Graph.{trap, Value, plain, Kind, Object}
use Rattle.graph.specs.Shape.{boxed, heads, entry_of, entry_value, head_word, body_want, want, Counted, Shaped}
use Rattle.graph.specs.Calls.{State, new_object, is_dynamic, any_dynamic}
use Rattle.graph.proofs.Shape.{want-cases, want-head, want-body}
use Rattle.graph.proofs.Entries.{entry-back}
use Rattle.layout.specs.Places.{Places, Means, Fits}

-- what holds of a value holds at every place of a list of it
pub each-replicate : (P : Value → Type 0) (n : ℕ) (v : Value) → P v → P (plain trap) → (k : ℕ) → P (get_or (replicate n v) k (plain trap))
each-replicate P n v a b k = elim (cases_lt k n) [
  | inl l ↦ rw (get_or-replicate n k v (plain trap) l) a
  | inr l ↦ rw (get_or_past (replicate n v) k (plain trap) (omega (arith, length-replicate n v))) b
]

pub any-replicate : (os : List Object) (n : ℕ) (v : Value) → any_dynamic os (replicate n v) ≡ (ltb 0 n && is_dynamic os v)
any-replicate os zero v = refl
any-replicate os (suc n) v = rw (any-replicate os n v, lt-ltb 0 (suc n) (omega arith)) (absorbs (ltb 0 n) (is_dynamic os v))
  where
    absorbs : (a b : Bool) → (b || (a && b)) ≡ b
    absorbs a true = refl
    absorbs true false = refl
    absorbs false false = refl

-- a new boxed object
pub shaped-boxed : (s : State) (κ : Kind) (vs : List Value) → boxed κ ≡ true → accessible κ 0 ≡ true → Counted κ (length vs) → Shaped (new_object s κ 0 vs)
shaped-boxed s κ vs b a c = record {
  thawed = λ _. refl;
  counted = c;
  access_known = omega arith;
  access_typed = a;
  entry_small = λ u. absurd (true≢false (sym b ∙ u));
  entry_typed = λ u. absurd (true≢false (sym b ∙ u));
}

-- entries that are all 0
pub entries-zero : (κ : Kind) (n k : ℕ) → get_or (map entry_of (replicate n (entry_value κ 0))) k 0 ≡ 0
entries-zero κ zero k = refl
entries-zero κ (suc n) zero = entry-back κ 0
entries-zero κ (suc n) (suc k) = entries-zero κ n k

pub pack-zero : (b n : ℕ) (es : List ℕ) (at : ℕ) → ((k : ℕ) → get_or es k 0 ≡ 0) → pack b n es at ≡ 0
unfolding pack
pack-zero b zero es at h = refl
pack-zero b (suc n) es at h = rw (h at, pack-zero b n es (at + 1) h) (omega arith)

-- a new unboxed object, its entries all 0
pub shaped-packed : (s : State) (κ : Kind) (a n : ℕ) → a < 5 → accessible κ a ≡ true → Counted κ n → Shaped (new_object s κ a (replicate n (entry_value κ 0)))
shaped-packed s κ a n l t c = record {
  thawed = λ _. refl;
  counted = rw (length-replicate n (entry_value κ 0)) c;
  access_known = l;
  access_typed = t;
  entry_small = λ u k. rw (entries-zero κ n k) (pow_pos (bits_of a));
  entry_typed = λ u k b. rw (entries-zero κ n k) (get_or-replicate n k (entry_value κ 0) (plain trap) (omega (arith, b, length-replicate n (entry_value κ 0))));
}

-- words mean values, one by one
abbrev pub Each : Places → List ℕ → List Value → Type 0
Each p [] [] = Unit {0}
Each p [] (v ∷ vs) = ⊥
Each p (w ∷ ws) [] = ⊥
Each p (w ∷ ws) (v ∷ vs) = Means p false w v × Each p ws vs

pub each_at : (p : Places) (ws : List ℕ) (vs : List Value) → Each p ws vs → (k : ℕ) → k < length ws → Means p false (get_or ws k 0) (get_or vs k (plain trap))
each_at p [] [] e k l = absurd (omega arith)
each_at p [] (v ∷ vs) e k l = absurd e
each_at p (w ∷ ws) [] e k l = absurd e
each_at p (w ∷ ws) (v ∷ vs) e zero l = e.0
each_at p (w ∷ ws) (v ∷ vs) e (suc k) l = each_at p ws vs e.1 k (omega arith)

pub each_same : (p : Places) (n w : ℕ) (v : Value) → Means p false w v → Each p (replicate n w) (replicate n v)
each_same p zero w v h = tt
each_same p (suc n) w v h = (h, each_same p n w v h)

-- words before the cells, and words of the cells
pub fit_words : (p : Places) (o : Object) (hs ws : List ℕ) → length hs ≡ heads o.kind → ((k : ℕ) → k < heads o.kind → get_or hs k 0 ≡ head_word o k) →
    ((k : ℕ) → k < length ws → Fits p false (get_or ws k 0) (body_want o k)) → (k : ℕ) → k < heads o.kind + length ws → Fits p false (get_or (hs ++ ws) k 0) (want o k)
fit_words p o hs ws e a b k l = elim (want-cases o k) [
  | inl z ↦ rw (want-head o k z, get_or_append_left hs ws 0 k (omega arith)) (a k z)
  | inr z ↦ rw (z.1, want-body o z.0, ← e, get_or-append-add hs ws z.0 0) (b z.0 (omega (arith, z.1)))
]
