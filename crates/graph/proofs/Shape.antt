-- What holds of every kind.
use Rattle.std.proofs.Common.{◌≡◌, ℕ, zero, suc, ◌+◌, ◌-◌, ◌<◌, true, false, cond, ◌≢◌, ◌⊎◌, length, get_or, sym, refl, ap, ◌∙◌, inl, inr, arith}
use Rattle.std.proofs.lemmas.List.{length-set, get_or-set_same, get_or-set_other}
use Rattle.std.proofs.lemmas.Bool.{cases_lt, cases_Bool, lt-ltb, le-ltb, true≢false}
use Rattle.graph.specs.Graph.{trap, Value, plain, Kind, uvector, string, bvector, symbol, list, Object, celled}
use Rattle.words.specs.Words.{words_of, header_word}
use Rattle.words.specs.Packing.{packed_word}
use Rattle.graph.specs.Shape.{entries, code, index, kinds, boxed, heads, size, exact, value, head_word, body_want, want, size_by, Counted, Shaped}

pub code-pointer : (κ : Kind) → (1 < code κ) × (code κ < 15)
code-pointer uvector = omega arith
code-pointer string = omega arith
code-pointer bvector = omega arith
code-pointer symbol = omega arith
code-pointer list = omega arith

pub index_below : (κ : Kind) → index κ < kinds
index_below uvector = omega arith
index_below string = omega arith
index_below bvector = omega arith
index_below symbol = omega arith
index_below list = omega arith

-- a kind from its place in the table
kind_at : ℕ → Kind
kind_at zero = uvector
kind_at (suc zero) = string
kind_at (suc (suc zero)) = bvector
kind_at (suc (suc (suc zero))) = symbol
kind_at (suc (suc (suc (suc n)))) = list

kind_at-index : (κ : Kind) → kind_at (index κ) ≡ κ
unfolding kind_at
kind_at-index uvector = refl
kind_at-index string = refl
kind_at-index bvector = refl
kind_at-index symbol = refl
kind_at-index list = refl

pub index-injective : (κ μ : Kind) → index κ ≡ index μ → κ ≡ μ
index-injective κ μ e = sym (kind_at-index κ) ∙ ap kind_at e ∙ kind_at-index μ

-- words are wanted one by one: a head, a cell of a boxed object, a word of packed entries
pub want-head : (o : Object) (k : ℕ) → k < heads o.kind → want o k ≡ exact (head_word o k)
unfolding want
want-head o k l = rw (lt-ltb k (heads o.kind) l) refl

pub want-body : (o : Object) (k : ℕ) → want o (heads o.kind + k) ≡ body_want o k
unfolding want
want-body o k =
    let e : heads o.kind + k - heads o.kind ≡ k = omega arith in
    rw (le-ltb (heads o.kind + k) (heads o.kind) (omega arith), e) refl

pub want-cell : (o : Object) (k : ℕ) → boxed o.kind ≡ true → want o (heads o.kind + k) ≡ value (get_or o.cells k (plain trap))
want-cell o k b = want-body o k ∙ rw b refl

-- a word is a head, or in the body
pub want-cases : (o : Object) (j : ℕ) → (j < heads o.kind) ⊎ ((k : ℕ) × (j ≡ heads o.kind + k))
want-cases o j = elim (cases_lt j (heads o.kind)) [ inl l ↦ inl l | inr l ↦ inr (j - heads o.kind, omega arith) ]

-- the words of an unboxed object are known
pub want-exact : (o : Object) (j : ℕ) → boxed o.kind ≡ false → (w : ℕ) × (want o j ≡ exact w)
want-exact o j b =
    elim (want-cases o j) [
      | inl l ↦ (head_word o j, want-head o j l)
      | inr q ↦ (packed_of q.0, rw q.1 (want-body o q.0 ∙ rw b refl))
    ]
  where
    packed_of : ℕ → ℕ
    packed_of k = packed_word o.access (entries o) k

-- a cell replaced
pub size-celled : (o : Object) (k : ℕ) (v : Value) → size (celled o k v) ≡ size o
size-celled o k v = rw (length-set o.cells k v) refl

pub want-celled-same : (o : Object) (k : ℕ) (v : Value) → boxed o.kind ≡ true → k < length o.cells → want (celled o k v) (heads o.kind + k) ≡ value v
want-celled-same o k v b l = want-cell (celled o k v) k b ∙ ap value (get_or-set_same o.cells k v (plain trap) l)

pub want-celled-other : (o : Object) (k : ℕ) (v : Value) (j : ℕ) → boxed o.kind ≡ true → j ≢ heads o.kind + k → want (celled o k v) j ≡ want o j
want-celled-other o k v j b d =
    elim (want-cases o j) [
      | inl l ↦ want-head (celled o k v) j l ∙ rw (length-set o.cells k v) (sym (want-head o j l))
      | inr q ↦ let e = q.1 in let n : q.0 ≢ k = λ z. d (omega arith) in
          rw e (want-cell (celled o k v) q.0 b ∙ ap value (get_or-set_other o.cells k q.0 v (plain trap) n) ∙ sym (want-cell o q.0 b))
    ]

pub size-boxed : (o : Object) → boxed o.kind ≡ true → size o ≡ heads o.kind + length o.cells
size-boxed o b = rw b refl

pub shaped-celled : (o : Object) (k : ℕ) (v : Value) → boxed o.kind ≡ true → Shaped o → Shaped (celled o k v)
shaped-celled o k v b s = record {
  thawed = s.thawed;
  counted = rw (length-set o.cells k v) s.counted;
  access_known = s.access_known;
  access_typed = s.access_typed;
  entry_small = λ u. absurd (true≢false (sym b ∙ u));
  entry_typed = λ u. absurd (true≢false (sym b ∙ u));
}

-- no object has no words
pub heads-or-cells : (κ : Kind) (n : ℕ) → Counted κ n → 0 < heads κ + cond (boxed κ) n 0
heads-or-cells uvector n c = omega arith
heads-or-cells string n c = omega arith
heads-or-cells bvector n c = omega arith
heads-or-cells symbol n c = omega arith
heads-or-cells list n c = omega arith

pub size-some : (o : Object) → Shaped o → 0 < size o
size-some o s = let a = heads-or-cells o.kind (length o.cells) s.counted in
    elim (cases_Bool (boxed o.kind)) [ inl e ↦ rw e (rw e at a) | inr e ↦ rw e (let z : 0 < heads o.kind + 0 = (rw e at a) in omega arith) ]

-- the first word tells the size: it is a header, or the kind has one size
pub size_by-cases : (κ : Kind) → ((0 < heads κ) × ((w : ℕ) → size_by κ w ≡ words_of w)) ⊎ ((boxed κ ≡ true) × ((n w : ℕ) → Counted κ n → size_by κ w ≡ heads κ + n))
size_by-cases uvector = inl (omega arith, λ w. refl)
size_by-cases string = inl (omega arith, λ w. refl)
size_by-cases bvector = inl (omega arith, λ w. refl)
size_by-cases symbol = inr (refl, λ n w c. omega (arith, c))
size_by-cases list = inr (refl, λ n w c. omega (arith, c))

pub want-first : (o : Object) → 0 < heads o.kind → want o 0 ≡ exact (header_word (size o))
want-first o l = want-head o 0 l

-- an unboxed object has a header
pub unboxed-heads : (κ : Kind) → boxed κ ≡ false → 0 < heads κ
unboxed-heads uvector b = omega arith
unboxed-heads string b = omega arith
unboxed-heads bvector b = absurd (true≢false b)
unboxed-heads symbol b = absurd (true≢false b)
unboxed-heads list b = absurd (true≢false b)
