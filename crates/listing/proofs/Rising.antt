-- A listing that is written line by line, and the line of a fault.

use Rattle.std.proofs.Common.{◌≡◌, ℕ, ◌+◌, ◌<◌, ◌≤◌, List, [], ◌∷◌, ◌++◌, length, get_or, drop, sym, ap, ◌∙◌, append_assoc, append-nil, rules}
use Rattle.std.proofs.lemmas.List.{at_drop_more, at_drop_all}
use Rattle.answers.specs.declared.Told.{Told}
use Rattle.lines.specs.Lines.{newline}
use Rattle.answers.specs.declared.TextFault.{TextFault}
use Rattle.answers.specs.Shown.{fault_shown}
use Rattle.listing.specs.Listing.{fault_text, listing, listing_from, register_line}

-- The line of register i carries a text from the lines below i to those below i + 1.
pub listing_more : (ts : List Told) (i : ℕ) (d : Told) (text line : List ℕ) → i < length ts → text ++ listing_from i (drop i ts) ≡ listing ts →
    line ≡ register_line i (get_or ts i d) → (text ++ line) ++ listing_from (i + 1) (drop (i + 1) ts) ≡ listing ts
listing_more ts i d text line h e l =
    let s : listing_from i (drop i ts) ≡ register_line i (get_or ts i d) ++ listing_from (i + 1) (drop (i + 1) ts) =
    at_drop_more (listing_from i) ts i d h in
    rw l (append_assoc text (register_line i (get_or ts i d)) (listing_from (i + 1) (drop (i + 1) ts)) ∙ ap (λ (t : List ℕ). text ++ t) (sym s) ∙ e)

-- Past the last register the text is the whole listing.
pub listing_all : (ts : List Told) (i : ℕ) (text : List ℕ) → length ts ≤ i → text ++ listing_from i (drop i ts) ≡ listing ts → text ≡ listing ts
listing_all ts i text h e = sym (append-nil text) ∙ ap (λ (t : List ℕ). text ++ t) (sym (at_drop_all (listing_from i) ts i h)) ∙ e

-- A fault as it is shown, and the newline that ends its line.
pub fault_ended : (fault : TextFault) → fault_shown fault ++ (newline ∷ []) ≡ fault_text fault
fault_ended fault = search (rules, append_assoc)
