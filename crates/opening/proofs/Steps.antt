-- One line more of a text, or its end.
use Rattle.std.proofs.Common.{◌≡◌, ℕ, suc, ◌+◌, List, [], ◌∷◌, Ok, Err, Result, sym, ap, ◌∙◌, subst, add-one, arith}
use Rattle.store.proofs.Laid.{ordered}
use Rattle.answers.specs.declared.Refusal.{Refusal}
use Rattle.answers.specs.declared.TextFault.{TextFault}
use Rattle.layout.specs.Machine.{Machine}
use Rattle.store.specs.declared.state.Store.{Store}
use Rattle.spaces.specs.declared.Space.{Space}
use Rattle.spaces.specs.Spaces.{code_of}
use Rattle.store.specs.View.{view}
use Rattle.laws.proofs.Views.{view-clean, code-small}
use Rattle.opening.specs.Opening.{lined, fault_at, summed, LineRuns, Settled, Runs, ended, goes, stops}

module _ (control bindings : ℕ) (G : Machine → Result ℕ TextFault → Type 0) (m : Machine) (n t : ℕ) (ls : List (List ℕ)) (inv : (m' : Machine) (r : Result ℕ TextFault) → Runs control bindings m (suc n) t ls m' r → G m' r) where
  -- the text has ended
  pub runs-end : ls ≡ [] → G m (Ok t)
  runs-end e = let P : List (List ℕ) → Type 0 = λ x. Runs control bindings m (suc n) t x m (Ok t) in inv m (Ok t) (subst P (sym e) ended)

  module _ (m₁ : Machine) (l : List ℕ) (ls' : List (List ℕ)) (e : ls ≡ l ∷ ls') (num : ℕ) (at : num ≡ n + 1) where
    -- a line is refused
    pub runs-stop : (q : Result ℕ Refusal) → LineRuns control bindings l m m₁ q → (f : TextFault) → lined num q ≡ Err f → (r : Result ℕ TextFault) → r ≡ Err f → G m₁ r
    runs-stop (Ok k) h f z r y = let w : ◌≡◌ {A = ℕ} 0 1 = cc in absurd (omega arith)
    runs-stop (Err x) h f z r y =
        let P : List (List ℕ) → Type 0 = λ q. Runs control bindings m (suc n) t q m₁ (fault_at (suc n) x) in
        let g : G m₁ (fault_at (suc n) x) = inv m₁ (fault_at (suc n) x) (subst P (sym e) (stops h)) in
        let a : num ≡ suc n = (at ∙ add-one n) in
        let v : fault_at (suc n) x ≡ r = (ap (λ i. fault_at i x) (sym a) ∙ z ∙ sym y) in subst (G m₁) v g

    -- a line is granted
    pub runs-again : Settled m₁ → (q : Result ℕ Refusal) → LineRuns control bindings l m m₁ q → (k t' n' : ℕ) → lined num q ≡ Ok k → t' ≡ summed t k → n' ≡ num → (m' : Machine) (r : Result ℕ TextFault) → Runs control bindings m₁ (suc n') t' ls' m' r → G m' r
    runs-again st (Err x) h k t' n' z y w m' r run = let v : ◌≡◌ {A = ℕ} 0 1 = cc in absurd (omega arith)
    runs-again st (Ok k₀) h k t' n' z y w m' r run =
        let k-is : k₀ ≡ k = cc in
        let n-is : n' ≡ suc n = (w ∙ at ∙ add-one n) in
        let t-is : t' ≡ summed t k₀ = (y ∙ ap (summed t) (sym k-is)) in
        let run' : Runs control bindings m₁ (suc (suc n)) (summed t k₀) ls' m' r = rw (← n-is, ← t-is) run in
        let P : List (List ℕ) → Type 0 = λ q. Runs control bindings m (suc n) t q m' r in
        inv m' r (subst P (sym e) (goes k₀ h st run'))

-- a store between calls is settled
pub view-settled : (s : Store) (space : Space) (ws : List ℕ) → Settled (view s (code_of space) ws)
view-settled s space ws = record { clean = view-clean s; ordered = ordered s; which = s.which; spaced = code-small space }
