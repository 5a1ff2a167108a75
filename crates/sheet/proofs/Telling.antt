-- Registers told one after another.
use Rattle.std.proofs.Common.{◌≡◌, ℕ, ◌+◌, ◌<◌, Bool, true, false, cond, not, List, length, get_or, set, is_ok, Ok, Err, Result, sym, refl, ap, ◌∙◌, subst, inl, inr, arith}
use Rattle.std.proofs.lemmas.Bool.{le-ltb, cases_eq}
use Rattle.answers.specs.declared.Told.{Told}
use Rattle.answers.specs.declared.Refusal.{Refusal}
use Rattle.graph.specs.Calls.{State, register, told, tell, outcome}
use Rattle.layout.specs.Machine.{Machine}
use Rattle.promises.specs.Promise.{Depicts, Promised, short, Keeps, Within}
use Rattle.access.specs.Access.{tell_done}
use Rattle.opening.proofs.Texts.{enough-kept}
use Rattle.sheet.specs.Sheet.{Still, all_told}
use Rattle.graph.specs.Graph.{plain, trap}
use Rattle.answers.specs.declared.Told.TheVariants.{Null}
use Rattle.std.proofs.lemmas.List.{same_lists, length-map, get_or-map, get_or_default, get_or-set_same, get_or-set_other}

cond_same : (b : Bool) (s : State) → cond b s s ≡ s
cond_same true s = refl
cond_same false s = refl

outcome-told : (r : ℕ) (b : Bool) (s : State) → r < 16 → b ≡ false → outcome (tell b r) s ≡ Ok (told s (register s r))
outcome-told r b s l e = rw (le-ltb 15 r (omega arith), e) refl

kept-enough : (m m' : Machine) (q : Result Told Refusal) (t : Told) → q ≡ Ok t → Keeps m m' q → Within m m'
kept-enough m m' (Ok a) t e k = k
kept-enough m m' (Err x) t e k = let z : ◌≡◌ {A = ℕ} 0 1 = cc in absurd (omega arith)

pub tell-step : (m m' : Machine) (r : ℕ) (q : Result Told Refusal) (s : State) → r < 16 → Promised (tell (short m 0 0) r) (tell_done 0 0 r) m m' q → Still m s → (q ≡ Ok (told s (register s r))) × Still m' s
tell-step m m' r q s l p st =
    let a = p.answers s st.0 in
    let ok : q ≡ Ok (told s (register s r)) = (a.0 ∙ outcome-told r (short m 0 0) s l (ap not st.1)) in
    let P : State → Type 0 = Depicts m' in
    (ok, (subst P (cond_same (is_ok q) s) a.1, enough-kept 0 0 m m' (kept-enough m m' q (told s (register s r)) ok p.keeps) st.1))

-- sixteen registers, each told as it is
pub told-all : (ts : List Told) (s : State) → length ts ≡ 16 → length s.graph.registers ≡ 16 → ((i : ℕ) → i < 16 → get_or ts i Null ≡ told s (register s i)) → ts ≡ all_told s
told-all ts s a b h = same_lists ts (all_told s) (a ∙ sym (length-map s.graph.registers (told s) ∙ b)) (λ k d l. get_or_default ts k d Null l ∙ h k (omega (arith, l, a)) ∙ sym (get_or-map (told s) s.graph.registers k (plain trap) d (omega (arith, l, a, b))))

-- what was told stays, and one register more is told
pub told_more : (ts : List Told) (r : ℕ) (t : Told) (f : ℕ → Told) → r < length ts → ((i : ℕ) → i < r → get_or ts i Null ≡ f i) → t ≡ f r → (i : ℕ) → i < r + 1 → get_or (set ts r t) i Null ≡ f i
told_more ts r t f l h e i b = elim (cases_eq i r) [
  | inl q ↦ rw (q, get_or-set_same ts r t Null l) e
  | inr q ↦ rw (get_or-set_other ts r i t Null q) (h i (omega arith))
]

-- what an answer was
pub ok-part : (a b : Told) → ◌≡◌ {A = Result Told Refusal} (Ok a) (Ok b) → a ≡ b
ok-part a b h = cc

pub err-none : (e : Refusal) (b : Told) → ◌≡◌ {A = Result Told Refusal} (Err e) (Ok b) → ⊥
err-none e b h = let z : ◌≡◌ {A = ℕ} 0 1 = cc in omega arith
