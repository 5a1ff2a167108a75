-- A block in two parts is one block.
use Rattle.std.proofs.Common.{◌≡◌, ℕ, ◌+◌, true, false, leb, List, ◌++◌, length, replicate, Ok, Err, refl, ap, ◌∙◌}
use Rattle.std.proofs.lemmas.List.{length-append, length-replicate}
use Rattle.answers.specs.declared.Refusal.TheVariants.{Short}
use Rattle.memory.specs.Pasted.{pasted}
use Rattle.memory.proofs.Pasting.{pasted-pasted}
use Rattle.making.specs.Make.{emplaced}

pub block-long : (hs : List ℕ) (n w : ℕ) → length (hs ++ replicate n w) ≡ length hs + n
block-long hs n w = length-append hs (replicate n w) ∙ ap (λ k. length hs + k) (length-replicate n w)

pub emplaced-short : (a n w : ℕ) (hs ws : List ℕ) → leb (a + (length hs + n)) (length ws) ≡ false → (ws, Err Short) ≡ emplaced a (hs ++ replicate n w) ws
unfolding emplaced
emplaced-short a n w hs ws e = rw (block-long hs n w, e) refl

pub emplaced-both : (a n w : ℕ) (hs ws ws₁ ws₂ : List ℕ) → leb (a + (length hs + n)) (length ws) ≡ true → ws₁ ≡ pasted ws a hs → ws₂ ≡ pasted ws₁ (a + length hs) (replicate n w) →
    (ws₂, Ok tt) ≡ emplaced a (hs ++ replicate n w) ws
unfolding emplaced
emplaced-both a n w hs ws ws₁ ws₂ e p q = rw (block-long hs n w, e, q, p, pasted-pasted ws a hs (replicate n w)) refl
