-- What the lines of a text do to a machine, they do to the graph.
use Rattle.std.proofs.Common.{◌≡◌, ℕ, Bool, true, false, cond, not, List, [], ◌∷◌, length, get_or, is_ok, Ok, Err, Result, sym, refl, ap, ◌∙◌, subst, inl, inr, arith}
use Rattle.answers.specs.declared.Refusal.{Refusal}
use Rattle.answers.specs.declared.Refusal.TheVariants.{NoForm}
use Rattle.answers.specs.declared.TextFault.{TextFault}
use Rattle.graph.specs.Calls.{State, judged, outcome}
use Rattle.layout.specs.Machine.{Machine, start, windows}
use Rattle.store.specs.Checks.{long_enough}
use Rattle.parttext.specs.declared.Line.{Line}
use Rattle.promises.specs.Promise.{Depicts, short, Within, Stays}
use Rattle.opening.specs.Opening.{line_call, plus, fault_at, performed, Opened, LineRuns, Settled, summed, Runs}
use Rattle.opening.specs.Opening.Runs.{ended, goes, stops}
use Rattle.parttext.specs.declared.Line.TheVariants.{Put, Symbol, Vector, Words, Read, Write}
use Rattle.parttext.specs.declared.Line.TheVariants.{List as list, String as string}
use Rattle.opening.proofs.LineLaws.{performed-answers, performed-stays}

-- a granted line answers its count
judged-ok : (ts : List (Bool × Refusal)) (a k : ℕ) → Ok k ≡ judged ts a → k ≡ a
judged-ok [] a k h = cc
judged-ok (t ∷ ts) a k h = go (λ z. judged-ok ts a k z) t.0 h
  where
    go : (Ok k ≡ judged ts a → k ≡ a) → (b : Bool) → Ok k ≡ cond b (Err t.1) (judged ts a) → k ≡ a
    go later true z = let q : ◌≡◌ {A = ℕ} 0 1 = cc in absurd (omega arith)
    go later false z = later z

line-count : (short : Bool) (c : Line) (s : State) → (line_call short c).answer s ≡ 0
line-count short (Put to value) s = refl
line-count short (list to car cdr) s = refl
line-count short (Symbol to name) s = refl
line-count short (Vector to count fill) s = refl
line-count short (string to count) s = refl
line-count short (Words to count access) s = refl
line-count short (Read to from at) s = refl
line-count short (Write into at value) s = refl

plus-zero : (k : ℕ) (r : Result ℕ TextFault) → k ≡ 0 → plus k r ≡ r
plus-zero k (Ok n) e = ap Ok (omega arith)
plus-zero k (Err f) e = refl

summed-zero : (t k : ℕ) → t ≡ 0 → k ≡ 0 → summed t k ≡ 0
summed-zero t k a b = rw (a, b) refl

-- nothing past the windows changes
within_same : (m : Machine) → Within m m
within_same m = record { starts = refl; long = refl; past = λ x h. refl }

within_both : (m m₁ m' : Machine) → Within m m₁ → Within m₁ m' → Within m m'
within_both m m₁ m' a b = record {
  starts = b.starts ∙ a.starts;
  long = b.long ∙ a.long;
  past = λ x h. let e : start m₁.table windows ≡ start m.table windows = ap (λ ss. get_or ss windows 0) a.starts in b.past x (omega (arith, e, h)) ∙ a.past x h;
}

stays_within : {A : Type 0} (m m₁ : Machine) (r : Result A Refusal) → Stays m m₁ r → Within m m₁
stays_within m m₁ (Ok a) h = h
stays_within m m₁ (Err e) h = let P : Machine → Type 0 = Within m in subst P (sym h) (within_same m)

line-within : (control bindings : ℕ) (l : List ℕ) (m m₁ : Machine) (r : Result ℕ Refusal) → Settled m → LineRuns control bindings l m m₁ r → Within m m₁
line-within control bindings l m m₁ r st (inl h) =
    let P : Machine × Result ℕ Refusal → Type 0 = λ x. Stays m x.0 x.1 in
    stays_within m m₁ r (subst P (sym h.2) (performed-stays control bindings h.0 m st))
line-within control bindings l m m₁ r st (inr h) = let P : Machine → Type 0 = Within m in subst P (sym h.1) (within_same m)

pub runs-within : (control bindings : ℕ) {m m' : Machine} {n t : ℕ} {ls : List (List ℕ)} {r : Result ℕ TextFault} → Runs control bindings m n t ls m' r → Settled m → Within m m'
runs-within control bindings {m} ended st = within_same m
runs-within control bindings (goes {m} {m₁} {m'} {n} {t} {l} {ls} {r} k h st₁ run) st = within_both m m₁ m' (line-within control bindings l m m₁ (Ok k) st h) (runs-within control bindings run st₁)
runs-within control bindings (stops {m} {m₁} {n} {t} {l} {ls} {e} h) st = line-within control bindings l m m₁ (Err e) st h

pub enough-kept : (control bindings : ℕ) (m m₁ : Machine) → Within m m₁ → long_enough m.table (length m.words) control bindings ≡ true → long_enough m₁.table (length m₁.words) control bindings ≡ true
unfolding long_enough
enough-kept control bindings m m₁ w e = rw (w.starts, w.long) e

-- what a call that was lent enough does
spelt : (control bindings : ℕ) (c : Line) (m m₁ : Machine) (r : Result ℕ Refusal) (s : State) → Settled m → long_enough m.table (length m.words) control bindings ≡ true → Depicts m s → (m₁, r) ≡ performed control bindings c m →
    (r ≡ outcome (line_call false c) s) × Depicts m₁ (cond (is_ok r) ((line_call false c).after s) s)
spelt control bindings c m m₁ r s st e d h =
    let P : Machine × Result ℕ Refusal → Type 0 = λ x. (x.1 ≡ outcome (line_call (short m control bindings) c) s) × Depicts x.0 (cond (is_ok x.1) ((line_call (short m control bindings) c).after s) s) in
    let a = subst P (sym h) (performed-answers control bindings c m st s d) in
    let Q : Bool → Type 0 = λ b. (r ≡ outcome (line_call b c) s) × Depicts m₁ (cond (is_ok r) ((line_call b c).after s) s) in
    let f : short m control bindings ≡ false = ap not e in subst Q f a

-- a machine that lines ran on shows the graph after them
abbrev Ends : State → ℕ → List (List ℕ) → Machine → Result ℕ TextFault → Type 0
Ends s n ls m' r = (s' : State) × Opened s n ls s' r × Depicts m' s'

pub runs-depicts : (control bindings : ℕ) {m m' : Machine} {n t : ℕ} {ls : List (List ℕ)} {r : Result ℕ TextFault} → Runs control bindings m n t ls m' r → t ≡ 0 → Settled m →
    long_enough m.table (length m.words) control bindings ≡ true → (s : State) → Depicts m s → (s' : State) × Opened s n ls s' r × Depicts m' s'
runs-depicts control bindings (ended {m} {n} {t}) z st en s d = let P : ℕ → Type 0 = λ k. Opened s n [] s (Ok k) in (s, subst P (sym z) Opened.ended, d)
runs-depicts control bindings (goes {m} {m₁} {m'} {n} {t} {l} {ls} {r} k (inl h) st₁ run) z st en s d =
    let a = spelt control bindings h.0 m m₁ (Ok k) s st en d h.2 in
    let k-zero : k ≡ 0 = (judged-ok ((line_call false h.0).refusals s) ((line_call false h.0).answer s) k a.0 ∙ line-count false h.0 s) in
    let w = line-within control bindings l m m₁ (Ok k) st (inl h) in
    let q = runs-depicts control bindings run (summed-zero t k z k-zero) st₁ (enough-kept control bindings m m₁ w en) ((line_call false h.0).after s) a.1 in
    let P : Result ℕ TextFault → Type 0 = Opened s n (l ∷ ls) q.0 in
    (q.0, subst P (plus-zero k r k-zero) (Opened.granted h.0 k h.1 (sym a.0) q.1), q.2)
runs-depicts control bindings (goes {m} {m₁} {m'} {n} {t} {l} {ls} {r} k (inr h) st₁ run) z st en s d = let y = h.2 in let v : ◌≡◌ {A = ℕ} 0 1 = cc in absurd (omega arith)
runs-depicts control bindings (stops {m} {m₁} {n} {t} {l} {ls} {e} (inl h)) z st en s d =
    let a = spelt control bindings h.0 m m₁ (Err e) s st en d h.2 in (s, Opened.refused h.0 e h.1 (sym a.0), a.1)
runs-depicts control bindings (stops {m} {m₁} {n} {t} {l} {ls} {e} (inr h)) z st en s d =
    let y = h.2 in
    let e-is : e ≡ NoForm = cc in
    let P : Refusal → Type 0 = λ x. Opened s n (l ∷ ls) s (fault_at n x) in
    let Q : Machine → Type 0 = λ x. Depicts x s in
    (s, subst P (sym e-is) (Opened.formless h.0), subst Q (sym h.1) d)
