-- Laws of words stored as halves: their number, the word at a place, and a write of both halves of a word.
use Rattle.std.proofs.Common.{◌≡◌, ℕ, zero, suc, ◌+◌, ◌*◌, ◌/◌, ◌<◌, ◌≤◌, List, [], ◌∷◌, length, get_or, set, refl, ap, arith}
use Rattle.std.proofs.lemmas.List.{length-set}
use Rattle.std.specs.Simd.{first_chunks}
use Rattle.words.specs.Words.{joined, low_half, high_half}
use Rattle.words.proofs.Coding.{joined-halves}
use Rattle.memory.specs.Halves.{paired, left_out}

pub length-paired : (hs : List ℕ) → length (paired hs) ≡ length hs / 2
length-paired [] = refl
length-paired (lo ∷ []) = refl
length-paired (lo ∷ (hi ∷ rest)) = let e = length-paired rest in omega arith

pub get_or-paired : (hs : List ℕ) (i : ℕ) → i < length hs / 2 → get_or (paired hs) i 0 ≡ joined (get_or hs (2 * i) 0) (get_or hs (2 * i + 1) 0)
get_or-paired [] i h = omega arith
get_or-paired (lo ∷ []) i h = omega arith
get_or-paired (lo ∷ (hi ∷ rest)) zero h = refl
get_or-paired (lo ∷ (hi ∷ rest)) (suc i) h =
    let e : 2 * suc i ≡ suc (suc (2 * i)) = omega arith in
    let f : suc (suc (2 * i)) + 1 ≡ suc (suc (2 * i + 1)) = omega arith in
    let l : i < length rest / 2 = omega arith in
    rw (e, f) (get_or-paired rest i l)

pub paired-set : (hs : List ℕ) (i lo hi : ℕ) → paired (set (set hs (2 * i) lo) (2 * i + 1) hi) ≡ set (paired hs) i (joined lo hi)
paired-set [] i lo hi = refl
paired-set (x ∷ []) zero lo hi = refl
paired-set (x ∷ []) (suc i) lo hi =
    let e : 2 * suc i ≡ suc (suc (2 * i)) = omega arith in
    let f : suc (suc (2 * i)) + 1 ≡ suc (suc (2 * i + 1)) = omega arith in
    rw (e, f) refl
paired-set (x ∷ (y ∷ rest)) zero lo hi = refl
paired-set (x ∷ (y ∷ rest)) (suc i) lo hi =
    let e : 2 * suc i ≡ suc (suc (2 * i)) = omega arith in
    let f : suc (suc (2 * i)) + 1 ≡ suc (suc (2 * i + 1)) = omega arith in
    rw (e, f) (ap (λ zs. joined x y ∷ zs) (paired-set rest i lo hi))

-- A write of a word does not touch an odd last half.
pub left_out-set : (hs : List ℕ) (i lo hi : ℕ) → i < length hs / 2 → left_out (set (set hs (2 * i) lo) (2 * i + 1) hi) ≡ left_out hs
left_out-set [] i lo hi h = refl
left_out-set (x ∷ []) i lo hi h = absurd (omega arith)
left_out-set (x ∷ (y ∷ rest)) zero lo hi h = refl
left_out-set (x ∷ (y ∷ rest)) (suc i) lo hi h =
    let e : 2 * suc i ≡ suc (suc (2 * i)) = omega arith in
    let f : suc (suc (2 * i)) + 1 ≡ suc (suc (2 * i + 1)) = omega arith in
    let l : i < length rest / 2 = omega arith in
    rw (e, f) (left_out-set rest i lo hi l)

-- The halves of word i lie at 2i and 2i + 1.
pub halves-paired : (hs : List ℕ) (i : ℕ) → ((k : ℕ) → get_or hs k 0 < 65536) → i < length hs / 2 →
    (get_or hs (2 * i) 0 ≡ low_half (get_or (paired hs) i 0)) × (get_or hs (2 * i + 1) 0 ≡ high_half (get_or (paired hs) i 0))
halves-paired hs i b h = rw (get_or-paired hs i h) (omega (arith, b (2 * i)), omega (arith, b (2 * i)))

-- Words of halves below 2^16 are below 2^32.
pub paired-fits : (hs : List ℕ) → ((k : ℕ) → get_or hs k 0 < 65536) → (k : ℕ) → get_or (paired hs) k 0 < 4294967296
paired-fits [] b k = omega arith
paired-fits (lo ∷ []) b k = omega arith
paired-fits (lo ∷ (hi ∷ rest)) b zero = omega (arith, b 0, b 1)
paired-fits (lo ∷ (hi ∷ rest)) b (suc k) = paired-fits rest (λ j. b (suc (suc j))) k

-- Chunk i of two halves is the halves 2i and 2i + 1.
pub get_or-chunks : (hs : List ℕ) (n i : ℕ) → n ≤ length hs / 2 → i < n → get_or (first_chunks 2 n hs) i [] ≡ get_or hs (2 * i) 0 ∷ (get_or hs (2 * i + 1) 0 ∷ [])
get_or-chunks hs zero i h l = absurd (omega arith)
get_or-chunks [] (suc n) i h l = absurd (omega arith)
get_or-chunks (lo ∷ []) (suc n) i h l = absurd (omega arith)
get_or-chunks (lo ∷ (hi ∷ rest)) (suc n) zero h l = refl
get_or-chunks (lo ∷ (hi ∷ rest)) (suc n) (suc i) h l =
    let e : 2 * suc i ≡ suc (suc (2 * i)) = omega arith in
    let f : suc (suc (2 * i)) + 1 ≡ suc (suc (2 * i + 1)) = omega arith in
    rw (e, f) (get_or-chunks rest n i (omega arith) (omega arith))

pub ruleset halved = (length-paired, length-set, paired-set, left_out-set, joined-halves)
