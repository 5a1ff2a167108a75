-- Laws of a block written over a part of a list of words.
use Rattle.std.proofs.Common.{◌≡◌, ℕ, zero, suc, ◌+◌, ◌<◌, ◌≤◌, ◌≢◌, ◌⊎◌, List, [], ◌∷◌, ◌++◌, length, get_or, take, drop, set, replicate, sym, refl, ◌∙◌, inl, inr, arith}
use Rattle.std.proofs.lemmas.List.{length-set, get_or-set_same, get_or-set_other, length-take-le, length-replicate, take_more, replicate_more, drop-set-lt, take_more_set, append_assoc, take-append-drop}
use Rattle.memory.specs.Pasted.{pasted}

pub pasted-none : (ws : List ℕ) (a : ℕ) → pasted ws a [] ≡ ws
unfolding pasted
pasted-none ws a = refl

pub pasted-one : (ws : List ℕ) (a x : ℕ) → pasted ws a (x ∷ []) ≡ set ws a x
unfolding pasted
pasted-one ws a x = refl

pub length-pasted : (ws : List ℕ) (a : ℕ) (xs : List ℕ) → length (pasted ws a xs) ≡ length ws
unfolding pasted
length-pasted ws a [] = refl
length-pasted ws a (x ∷ xs) = length-pasted (set ws a x) (a + 1) xs ∙ length-set ws a x

-- A place outside the block has what it had.
pub pasted-outside : (ws : List ℕ) (a : ℕ) (xs : List ℕ) (x : ℕ) → (x < a) ⊎ (a + length xs ≤ x) → get_or (pasted ws a xs) x 0 ≡ get_or ws x 0
unfolding pasted
pasted-outside ws a [] x h = refl
pasted-outside ws a (y ∷ ys) x (inl l) =
    let d : x ≢ a = (λ e. omega (arith, e)) in
    pasted-outside (set ws a y) (a + 1) ys x (inl (omega arith)) ∙ get_or-set_other ws a x y 0 d
pasted-outside ws a (y ∷ ys) x (inr l) =
    let d : x ≢ a = (λ e. omega (arith, e)) in
    pasted-outside (set ws a y) (a + 1) ys x (inr (omega arith)) ∙ get_or-set_other ws a x y 0 d

-- A place inside the block has the block's word.
pub pasted-inside : (ws : List ℕ) (a : ℕ) (xs : List ℕ) (k : ℕ) → a + length xs ≤ length ws → k < length xs → get_or (pasted ws a xs) (a + k) 0 ≡ get_or xs k 0
unfolding pasted
pasted-inside ws a [] k h l = absurd (omega arith)
pasted-inside ws a (x ∷ xs) zero h l =
    let z : a + 0 ≡ a = omega arith in
    rw z (pasted-outside (set ws a x) (a + 1) xs a (inl (omega arith)) ∙ get_or-set_same ws a x 0 (omega arith))
pasted-inside ws a (x ∷ xs) (suc k) h l =
    let z : a + suc k ≡ a + 1 + k = omega arith in
    let n = length-set ws a x in
    rw z (pasted-inside (set ws a x) (a + 1) xs k (omega arith) (omega arith))

-- Two blocks written end to end are one.
pub pasted-pasted : (ws : List ℕ) (a : ℕ) (xs ys : List ℕ) → pasted (pasted ws a xs) (a + length xs) ys ≡ pasted ws a (xs ++ ys)
unfolding pasted
pasted-pasted ws a [] ys = let z : a + 0 ≡ a = omega arith in rw z refl
pasted-pasted ws a (x ∷ xs) ys =
    let z : a + suc (length xs) ≡ a + 1 + length xs = omega arith in
    rw z (pasted-pasted (set ws a x) (a + 1) xs ys)

-- A block that fits lies between the words before it and the words after it.
pub pasted-between : (ws : List ℕ) (a : ℕ) (xs : List ℕ) → a + length xs ≤ length ws → pasted ws a xs ≡ take a ws ++ (xs ++ drop (a + length xs) ws)
unfolding pasted
pasted-between ws a [] h = let z : a + 0 ≡ a = omega arith in rw z (sym (take-append-drop a ws))
pasted-between ws a (x ∷ xs) h =
    let z : a + suc (length xs) ≡ a + 1 + length xs = omega arith in
    let n = length-set ws a x in
    rw (
      z,
      pasted-between (set ws a x) (a + 1) xs (omega arith),
      drop-set-lt (a + 1 + length xs) ws a x (omega arith),
      take_more_set ws a x (omega arith),
      append_assoc (take a ws) (x ∷ []) (xs ++ drop (a + 1 + length xs) ws),
    ) refl

-- One word more of a block: the next one of the words xs, or another w.
pub pasted-more : (ws : List ℕ) (a : ℕ) (xs : List ℕ) (i : ℕ) → i < length xs → set (pasted ws a (take i xs)) (a + i) (get_or xs i 0) ≡ pasted ws a (take (i + 1) xs)
pasted-more ws a xs i h =
    let n = length-take-le i xs (omega arith) in
    rw (take_more xs i 0 h, ← pasted-pasted ws a (take i xs) (get_or xs i 0 ∷ []), n, pasted-one (pasted ws a (take i xs)) (a + i) (get_or xs i 0)) refl

pub pasted-replicate : (ws : List ℕ) (a i w : ℕ) → set (pasted ws a (replicate i w)) (a + i) w ≡ pasted ws a (replicate (i + 1) w)
pasted-replicate ws a i w =
    rw (← replicate_more i w, ← pasted-pasted ws a (replicate i w) (w ∷ []), length-replicate i w, pasted-one (pasted ws a (replicate i w)) (a + i) w) refl
