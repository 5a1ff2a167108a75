-- A text run on the heap of a sheet gives what its registers then hold.
use Rattle.std.proofs.Common.{◌≡◌, ℕ, Bool, true, false, not, ltb, List, length, replicate, IfOk, Ok, Err, MatchBool, Result, sym, refl, ap, ◌∙◌, subst, arith, MatchResult}
use Rattle.answers.specs.declared.Told.{Told}
use Rattle.answers.specs.declared.TextFault.{TextFault}
use Rattle.answers.specs.declared.Refusal.{Refusal}
use Rattle.answers.specs.declared.Refusal.TheVariants.{Short, TooLong}
use Rattle.graph.specs.Calls.{State}
use Rattle.memory.proofs.Pasting.{length-pasted}
use Rattle.layout.specs.Machine.{Machine}
use Rattle.layout.specs.Fresh.{fresh_machine}
use Rattle.store.specs.Checks.{long_enough}
use Rattle.promises.specs.Promise.{Depicts, short}
use Rattle.fresh.specs.Windows.{lengths, windows_fit, empty_state}
use Rattle.fresh.specs.Made.{cleared, store_made}
use Rattle.std.specs.Borrow.{GName}
use Rattle.loan.specs.declared.Loan.{Loan}
use Rattle.loan.specs.Lent.{GivenBack}
use Rattle.lines.specs.Lines.{lines_of}
use Rattle.opening.specs.Opening.{text_limit, lined, fault_at, in_space, Opened, TextPromised}
use Rattle.opening.proofs.Texts.{enough-kept}
use Rattle.heap.specs.declared.state.Heap.{Heap}
use Rattle.heap.specs.View.{machine, shown_by}
use Rattle.sheet.specs.Sheet.{Still, Unstacked, sheet_windows, sheet_state, all_told, shown_as, Gives, sheet_text, Sheet}

-- the memory of a sheet has room for its windows
pub sheet-made : (ws : List ℕ) → length ws ≡ 5120 → store_made sheet_windows 0 0 ws ≡ (cleared 5120 ws, Ok (fresh_machine (lengths sheet_windows) (cleared 5120 ws)))
unfolding store_made lengths windows_fit
sheet-made ws e = rw e refl

pub sheet-enough : (ws : List ℕ) → length ws ≡ 5120 → long_enough (fresh_machine (lengths sheet_windows) (cleared 5120 ws)).table (length (cleared 5120 ws)) 0 0 ≡ true
unfolding long_enough lengths
sheet-enough ws e = rw (length-pasted ws 0 (replicate 5120 0), e) refl

module _ (text : List ℕ) (m m' : Machine) (q : Result ℕ TextFault) (r : Result (List Told) TextFault) (d : Depicts m (empty_state sheet_windows)) (e : long_enough m.table (length m.words) 0 0 ≡ true) (p : TextPromised 0 0 0 text m m' q)
    (failed : (f : TextFault) → q ≡ Err f → r ≡ Err f) (done : (k : ℕ) → q ≡ Ok k → (s : State) → Still m' s → r ≡ Ok (all_told s)) where
  answered : (b long : Bool) → short m 0 0 ≡ b → b ≡ false → ltb text_limit (length text) ≡ long →
      MatchBool b ((q ≡ fault_at 0 Short) × Depicts m' (empty_state sheet_windows)) (MatchBool long ((q ≡ fault_at 0 TooLong) × Depicts m' (empty_state sheet_windows))
      ((s' : State) × Opened sheet_state 1 (lines_of text) s' q × Depicts m' (in_space s' (empty_state sheet_windows).graph.space))) →
      MatchBool long (r ≡ fault_at 0 TooLong) ((s : State) × (z : Result ℕ TextFault) × Opened sheet_state 1 (lines_of text) s z × (r ≡ shown_as s z))
  answered true long a f l h = let z : ◌≡◌ {A = ℕ} 0 1 = cc in absurd (omega arith)
  answered false true a f l h = failed _ h.0
  answered false false a f l h = (h.0, q, h.1, shown q refl)
    where
      shown : (z : Result ℕ TextFault) → q ≡ z → r ≡ shown_as h.0 z
      shown (Ok k) y = done k y (in_space h.0 (empty_state sheet_windows).graph.space) (h.2, enough-kept 0 0 m m' p.within e)
      shown (Err x) y = failed x y

  pub sheet-gives : Gives text r
  sheet-gives = answered (short m 0 0) (ltb text_limit (length text)) refl (ap not e) refl (p.answers (empty_state sheet_windows) d)

pub no-fault : (f : TextFault) (k : ℕ) → ◌≡◌ {A = Result ℕ TextFault} (Err f) (Ok k) → ⊥
no-fault f k h = let z : ◌≡◌ {A = ℕ} 0 1 = cc in omega arith

-- after an accepted text the heap is still in order
pub sheet-still : (text : List ℕ) (m m' : Machine) (q : Result ℕ TextFault) (k : ℕ) → Depicts m (empty_state sheet_windows) → long_enough m.table (length m.words) 0 0 ≡ true → TextPromised 0 0 0 text m m' q → q ≡ Ok k → (s : State) × Still m' s
sheet-still text m m' q k d e p y = go (short m 0 0) (ltb text_limit (length text)) (ap not e) (p.answers (empty_state sheet_windows) d)
  where
    no : (f : TextFault) → q ≡ Err f → ⊥
    no f h = no-fault f k (sym h ∙ y)

    go : (b long : Bool) → b ≡ false →
        MatchBool b ((q ≡ fault_at 0 Short) × Depicts m' (empty_state sheet_windows)) (MatchBool long ((q ≡ fault_at 0 TooLong) × Depicts m' (empty_state sheet_windows))
        ((s' : State) × Opened sheet_state 1 (lines_of text) s' q × Depicts m' (in_space s' (empty_state sheet_windows).graph.space))) →
        (s : State) × Still m' s
    go true long f h = absurd (no _ h.0)
    go false true f h = absurd (no _ h.0)
    go false false f h = (in_space h.0 (empty_state sheet_windows).graph.space, (h.2, enough-kept 0 0 m m' p.within e))

-- stacks without room stay so
pub unstacked-kept : {M : Type 0} (lender : M → GName) (a b : Loan M) → GivenBack lender a b → Unstacked a → Unstacked b
unstacked-kept lender a b k u = (ap (λ x. length x.now) k.control ∙ u.0, ap (λ x. length x.now) k.bindings ∙ u.1)

-- the heap of a sheet is always made
pub sheet-heap : (ws ws' : List ℕ) (r : Result Heap Refusal) → length ws ≡ 5120 → (ws', shown_by ws' r) ≡ store_made sheet_windows 0 0 ws → IfOk r (λ h. Depicts (machine h ws') (empty_state sheet_windows)) →
    MatchResult r (λ h. Still (machine h ws') (empty_state sheet_windows)) (λ e. ⊥)
sheet-heap ws ws' (Ok h) l e d =
    let z : ◌≡◌ {A = List ℕ × Result Machine Refusal} (ws', Ok (machine h ws')) (cleared 5120 ws, Ok (fresh_machine (lengths sheet_windows) (cleared 5120 ws))) = (e ∙ sheet-made ws l) in
    let w : ws' ≡ cleared 5120 ws = ap (λ x. x.0) z in
    let y : ◌≡◌ {A = Result Machine Refusal} (Ok (machine h ws')) (Ok (fresh_machine (lengths sheet_windows) (cleared 5120 ws))) = ap (λ x. x.1) z in
    let t : machine h ws' ≡ fresh_machine (lengths sheet_windows) (cleared 5120 ws) = cc in
    let P : Machine → Type 0 = λ x. long_enough x.table (length x.words) 0 0 ≡ true in
    (d, subst P (sym t) (sheet-enough ws l))
sheet-heap ws ws' (Err x) l e d =
    let z : ◌≡◌ {A = List ℕ × Result Machine Refusal} (ws', Err x) (cleared 5120 ws, Ok (fresh_machine (lengths sheet_windows) (cleared 5120 ws))) = (e ∙ sheet-made ws l) in
    let y : ◌≡◌ {A = Result Machine Refusal} (Err x) (Ok (fresh_machine (lengths sheet_windows) (cleared 5120 ws))) = ap (λ q. q.1) z in
    let t : ◌≡◌ {A = ℕ} 0 1 = cc in omega arith

pub lined-heap : (P : Heap → Type 0) (q : Result Heap Refusal) (r : Result Heap TextFault) → r ≡ lined 0 q → MatchResult q P (λ e. ⊥) → MatchResult r P (λ e. ⊥)
lined-heap P (Ok h) r e c = rw e c
lined-heap P (Err x) r e c = absurd c

pub same-fault : {A : Type 0} (f g : TextFault) → ◌≡◌ {A = Result ℕ TextFault} (Err f) (Err g) → ◌≡◌ {A = Result A TextFault} (Err f) (Err g)
same-fault f g h = let e : f ≡ g = cc in ap Err e

-- the bytes of what a text gives are its sheet
pub sheet-made-of : {X E : Type 0} (bytes : X → List ℕ) (text : List ℕ) (r : Result (List Told) TextFault) (q : Result X E) → Gives text r → IfOk q (λ s. bytes s ≡ sheet_text r) → IfOk q (λ s. Sheet text (bytes s))
sheet-made-of bytes text r (Ok s) g h = (r, g, h)
sheet-made-of bytes text r (Err e) g h = tt
