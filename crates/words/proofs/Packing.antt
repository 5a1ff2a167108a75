-- Entries read out of packed words, and put into them.
use Rattle.std.proofs.Common.{◌≡◌, ℕ, zero, suc, ◌+◌, ◌-◌, ◌*◌, ◌/◌, ◌%◌, ◌^◌, ◌<◌, ◌≤◌, ◌≢◌, ◌⊎◌, List, length, get_or, set, refl, ap, ◌∙◌, inl, inr, mul_comm, pow-suc, mul-zero, mul-suc, div-mul-le_self, arith}
use native.Mathlib.Nat.{div-div-eq-div-mul, pow-zero, pow-succ', mod-le}
use lib.Arith.{digits_lt}
use Rattle.std.proofs.lemmas.List.{get_or-set_same, get_or-set_other}
use Rattle.std.proofs.lemmas.Bool.{cases_lt}
use Rattle.std.proofs.lemmas.Nat.{div-mul-add, mod-mul-add, pow-add, pow_pos, mod-pow-add, shr_split, shr_below, mul-le, mod_below}
use Rattle.std.specs.Int.{div_ceil}
use Rattle.words.specs.Packing.{bits_of, per_word, pack, packed_word, packed_count, scale_of, entry_of, with_entry}

-- An entry that is not among the n from `at` on does not matter to them.
pub pack-outside : (b n : ℕ) (es : List ℕ) (at k v : ℕ) → (k < at) ⊎ (at + n ≤ k) → pack b n (set es k v) at ≡ pack b n es at
unfolding pack
pack-outside b zero es at k v h = refl
pack-outside b (suc n) es at k v (inl l) = let d : at ≢ k = (λ e. omega (arith, e)) in
    rw (get_or-set_other es k at v 0 d, pack-outside b n es (at + 1) k v (inl (omega arith))) refl
pack-outside b (suc n) es at k v (inr l) = let d : at ≢ k = (λ e. omega (arith, e)) in
    rw (get_or-set_other es k at v 0 d, pack-outside b n es (at + 1) k v (inr (omega arith))) refl

-- Digit t of packed entries is entry t of them.
pub pack-read : (b n : ℕ) (es : List ℕ) (at t : ℕ) → ((k : ℕ) → get_or es k 0 < b) → t < n → pack b n es at / b ^ t % b ≡ get_or es (at + t) 0
unfolding pack
pack-read b zero es at t h l = absurd (omega arith)
pack-read b (suc n) es at zero h l =
    let e : get_or es at 0 + b * pack b n es (at + 1) ≡ pack b n es (at + 1) * b + get_or es at 0 = omega (arith, mul_comm b (pack b n es (at + 1))) in
    let z : at + 0 ≡ at = omega arith in
    let one : (get_or es at 0 + b * pack b n es (at + 1)) / 1 ≡ get_or es at 0 + b * pack b n es (at + 1) = omega arith in
    rw (z, pow-zero b, one, e) (mod-mul-add (pack b n es (at + 1)) b (get_or es at 0) (h at))
pack-read b (suc n) es at (suc t) h l =
    let e : get_or es at 0 + b * pack b n es (at + 1) ≡ pack b n es (at + 1) * b + get_or es at 0 = omega (arith, mul_comm b (pack b n es (at + 1))) in
    let z : at + suc t ≡ at + 1 + t = omega arith in
    rw (z, pow-succ' b t, ← div-div-eq-div-mul (get_or es at 0 + b * pack b n es (at + 1)) b (b ^ t), e, div-mul-add (pack b n es (at + 1)) b (get_or es at 0) (h at))
    (pack-read b n es (at + 1) t h (omega arith))

-- What a new value of entry t adds to the packed entries, and the old one takes away.
pub pack-write : (b n : ℕ) (es : List ℕ) (at t v : ℕ) → t < n → at + t < length es → pack b n (set es (at + t) v) at + get_or es (at + t) 0 * b ^ t ≡ pack b n es at + v * b ^ t
unfolding pack
pack-write b zero es at t v l m = absurd (omega arith)
pack-write b (suc n) es at zero v l m =
    let z : at + 0 ≡ at = omega arith in
    rw (z, pow-zero b, get_or-set_same es at v 0 (omega arith), pack-outside b n es (at + 1) at v (inl (omega arith))) (omega arith)
pack-write b (suc n) es at (suc t) v l m =
    let z : at + suc t ≡ at + 1 + t = omega arith in
    let d : at ≢ at + 1 + t = (λ e. omega (arith, e)) in
    let y = pack-write b n es (at + 1) t v (omega arith) (omega (arith, m)) in
    let q = ap (λ x. b * x) y in
    rw (z, get_or-set_other es (at + 1 + t) at v 0 d, pow-succ' b t) (omega (arith, q))

-- What holds of the five access types holds of each of them.
each_access : (P : ℕ → Type 0) → P 0 × (P 1 × (P 2 × (P 3 × P 4))) → (a : ℕ) → a < 5 → P a
each_access P (p, (q, (r, (s, t)))) zero l = p
each_access P (p, (q, (r, (s, t)))) (suc zero) l = q
each_access P (p, (q, (r, (s, t)))) (suc (suc zero)) l = r
each_access P (p, (q, (r, (s, t)))) (suc (suc (suc zero))) l = s
each_access P (p, (q, (r, (s, t)))) (suc (suc (suc (suc zero)))) l = t
each_access P (p, (q, (r, (s, t)))) (suc (suc (suc (suc (suc a))))) l = absurd (omega arith)

-- Entry k lies in word k / per_word, which is one of the words that the entries take.
pub packed-in : (a n k : ℕ) → a < 5 → k < n → k / per_word a < packed_count a n
packed-in a n k l h = each_access (λ a. k / per_word a < packed_count a n) (omega arith) a l

-- Entry k has the place k % per_word in its word.
pub packed-split : (a k : ℕ) → a < 5 → (k / per_word a * per_word a + k % per_word a ≡ k) × (k % per_word a < per_word a)
packed-split a k = each_access (λ a. (k / per_word a * per_word a + k % per_word a ≡ k) × (k % per_word a < per_word a)) (omega arith) a

-- No other word has entry k.
pub packed-apart : (a k j : ℕ) → a < 5 → j ≢ k / per_word a → (k < j * per_word a) ⊎ (j * per_word a + per_word a ≤ k)
packed-apart a k j l d = elim (cases_lt k (j * per_word a)) [
  | inl m ↦ inl m
  | inr m ↦ elim (cases_lt k (j * per_word a + per_word a)) [ inl n ↦ absurd (d (same a l m n)) | inr n ↦ inr n ]
]
  where
    same : (a : ℕ) → a < 5 → j * per_word a ≤ k → k < j * per_word a + per_word a → j ≡ k / per_word a
    same = each_access (λ a. j * per_word a ≤ k → k < j * per_word a + per_word a → j ≡ k / per_word a)
        (λ l m. omega arith, (λ l m. omega arith, (λ l m. omega arith, (λ l m. omega arith, λ l m. omega arith))))

-- Entry k read from its word.
pub packed-read : (a k : ℕ) (es : List ℕ) → a < 5 → ((j : ℕ) → get_or es j 0 < 2 ^ bits_of a) → packed_word a es (k / per_word a) / (2 ^ bits_of a) ^ (k % per_word a) % 2 ^ bits_of a ≡ get_or es k 0
packed-read a k es l h = let s = packed-split a k l in
    pack-read (2 ^ bits_of a) (per_word a) es (k / per_word a * per_word a) (k % per_word a) h s.1 ∙ ap (λ j. get_or es j 0) s.0

-- Entry k written into its word.
pub packed-write : (a k v : ℕ) (es : List ℕ) → a < 5 → k < length es →
    packed_word a (set es k v) (k / per_word a) + get_or es k 0 * (2 ^ bits_of a) ^ (k % per_word a) ≡ packed_word a es (k / per_word a) + v * (2 ^ bits_of a) ^ (k % per_word a)
packed-write a k v es l h = let s = packed-split a k l in
    rw s.0 at (pack-write (2 ^ bits_of a) (per_word a) es (k / per_word a * per_word a) (k % per_word a) v s.1 (omega (arith, s.0, h)))

-- A write of entry k leaves each other word.
pub packed-other : (a k v j : ℕ) (es : List ℕ) → a < 5 → j ≢ k / per_word a → packed_word a (set es k v) j ≡ packed_word a es j
packed-other a k v j es l d = pack-outside (2 ^ bits_of a) (per_word a) es (j * per_word a) k v (packed-apart a k j l d)

-- An entry has from 1 to 16 bits.
pub bits_inside : (a : ℕ) → a < 5 → (0 < bits_of a) × (bits_of a ≤ 16)
bits_inside = each_access (λ a. (0 < bits_of a) × (bits_of a ≤ 16)) (omega arith)

-- A word holds some entries.
pub per_word-some : (a : ℕ) → a < 5 → 0 < per_word a
per_word-some = each_access (λ a. 0 < per_word a) (omega arith)

-- The words that entries take are as many as words of per_word entries.
pub packed-ceil : (a n : ℕ) → a < 5 → div_ceil n (per_word a) ≡ packed_count a n
packed-ceil a n = each_access (λ a. div_ceil n (per_word a) ≡ packed_count a n) (omega arith) a

-- An entry's bits lie inside its word.
pub shift-inside : (a k : ℕ) → a < 5 → bits_of a * (k % per_word a) + bits_of a ≤ 32
shift-inside a k = each_access (λ a. bits_of a * (k % per_word a) + bits_of a ≤ 32) (omega arith) a

pow-mul : (n i j : ℕ) → n ^ (i * j) ≡ (n ^ i) ^ j
pow-mul n i zero = rw (mul-zero i, pow-zero n, pow-zero (n ^ i)) refl
pow-mul n i (suc j) = rw (mul-suc i j, pow-add n (i * j) i, pow-mul n i j, pow-suc (n ^ i) j) refl

-- An entry's scale is a power of two.
pub scale-power : (a k : ℕ) → 2 ^ (bits_of a * (k % per_word a)) ≡ scale_of a k
scale-power a k = pow-mul 2 (bits_of a) (k % per_word a)

pub scale-some : (a k : ℕ) → 0 < scale_of a k
scale-some a k = rw (← scale-power a k) (pow_pos (bits_of a * (k % per_word a)))

-- The part of b bits from bit s on is no more than the word.
field-part : (w b s : ℕ) → (w / 2 ^ s % 2 ^ b) * 2 ^ s ≤ w
field-part w b s = omega (arith, mul-le (w / 2 ^ s % 2 ^ b) (2 ^ s) (w / 2 ^ s) (2 ^ s) (mod-le (w / 2 ^ s) (2 ^ b)) (omega arith), div-mul-le_self w (2 ^ s))

-- With that part replaced by another of b bits, the word is no longer.
field_fits : (w b s r v : ℕ) → w < 2 ^ (r + (b + s)) → v < 2 ^ b → w - (w / 2 ^ s % 2 ^ b) * 2 ^ s + v * 2 ^ s < 2 ^ (r + (b + s))
field_fits w b s r v h l =
    let low = digits_lt {q = v} {m = 2 ^ b} {r = w % 2 ^ s} {c = 2 ^ s} l (mod_below w (2 ^ s) (pow_pos s)) in
    let all : w / 2 ^ (b + s) * 2 ^ (b + s) + (v * 2 ^ s + w % 2 ^ s) < 2 ^ r * 2 ^ (b + s) =
    digits_lt (shr_below w r (b + s) h) (rw (pow-add 2 b s) low) in
    rw (pow-add 2 r (b + s)) (omega (arith, all, mod-pow-add w b s, shr_split w (b + s)))

-- What entry k is worth in its word is no more than the word.
pub entry-part : (w a k : ℕ) → entry_of w a k * scale_of a k ≤ w
entry-part w a k = rw (scale-power a k) at (field-part w (bits_of a) (bits_of a * (k % per_word a)))

-- A word with one entry replaced is a word.
pub with-fits : (w a k v : ℕ) → a < 5 → w < 2 ^ 32 → v < 2 ^ bits_of a → with_entry w a k v < 2 ^ 32
with-fits w a k v l h m =
    let i = shift-inside a k l in
    let e : (32 - (bits_of a + bits_of a * (k % per_word a))) + (bits_of a + bits_of a * (k % per_word a)) ≡ 32 = omega arith in
    let g : w < 2 ^ ((32 - (bits_of a + bits_of a * (k % per_word a))) + (bits_of a + bits_of a * (k % per_word a))) = rw e h in
    rw (e, scale-power a k) at (field_fits w (bits_of a) (bits_of a * (k % per_word a)) (32 - (bits_of a + bits_of a * (k % per_word a))) v g m)

-- Entry k of the packed entries es is entry k of es.
pub packed-entry : (a k : ℕ) (es : List ℕ) → a < 5 → ((j : ℕ) → get_or es j 0 < 2 ^ bits_of a) → entry_of (packed_word a es (k / per_word a)) a k ≡ get_or es k 0
packed-entry a k es l h = packed-read a k es l h

-- The packed word of entry k, with that entry replaced, is the packed word of the entries with it replaced.
pub packed-with : (a k v : ℕ) (es : List ℕ) → a < 5 → ((j : ℕ) → get_or es j 0 < 2 ^ bits_of a) → k < length es →
    with_entry (packed_word a es (k / per_word a)) a k v ≡ packed_word a (set es k v) (k / per_word a)
packed-with a k v es l h m =
    let part = entry-part (packed_word a es (k / per_word a)) a k in
    let read = packed-read a k es l h in
    let part' : get_or es k 0 * scale_of a k ≤ packed_word a es (k / per_word a) = rw read at part in
    rw read (omega (arith, part', packed-write a k v es l m))
