-- From what a step does to a machine to what a call promises.
use Rattle.std.proofs.Common.{◌≡◌, ℕ, Bool, true, false, cond, List, [], ◌∷◌, is_ok, None, Ok, Err, Result, sym, refl, ap, ◌∙◌, subst, arith}
use Rattle.answers.specs.declared.Refusal.{Refusal}
use Rattle.answers.specs.Numbers.{place_of}
use Rattle.graph.specs.Calls.{State, Call, judged, outcome}
use Rattle.layout.specs.Machine.{Machine}
use Rattle.promises.specs.Promise.{Depicts, Answers, Stays, noted, noted_by, Keeps, Sticks, Promised}

-- No refusal of the graph names a foreign word.
abbrev pub Plain : List (Bool × Refusal) → Type 0
Plain [] = Unit {0}
Plain (t ∷ ts) = (place_of t.1 ≡ None) × Plain ts

pub judged-plain : {A : Type 0} (ts : List (Bool × Refusal)) (a : A) (e : Refusal) → Plain ts → Err e ≡ judged ts a → place_of e ≡ None
judged-plain [] a e p h = let z : ◌≡◌ {A = ℕ} 0 1 = cc in absurd (omega arith)
judged-plain (t ∷ ts) a e p h = go (λ z. judged-plain ts a e p.1 z) t.0 h
  where
    go : (Err e ≡ judged ts a → place_of e ≡ None) → (b : Bool) → Err e ≡ cond b (Err t.1) (judged ts a) → place_of e ≡ None
    go later true z = let q : e ≡ t.1 = cc in ap place_of q ∙ p.0
    go later false z = later z

pub noted-plain : (e : Refusal) (m : Machine) → place_of e ≡ None → noted e m ≡ m
noted-plain e m h = rw h refl

module _ {A : Type 0} (c : Call A) (plain : (s : State) → Plain (c.refusals s)) (m m₁ : Machine) (r : Result A Refusal) where
  noted-answers : Answers c m m₁ r → Answers c m (noted_by r m₁) r
  noted-answers h s d = go r (h s d)
    where
      go : (x : Result A Refusal) → (x ≡ outcome c s) × Depicts m₁ (cond (is_ok x) (c.after s) s) → (x ≡ outcome c s) × Depicts (noted_by x m₁) (cond (is_ok x) (c.after s) s)
      go (Ok a) z = z
      go (Err e) z = (z.0, rw (noted-plain e m₁ (judged-plain (c.refusals s) (c.answer s) e (plain s) z.0)) z.1)

  noted-keeps : Stays m m₁ r → Keeps m (noted_by r m₁) r
  noted-keeps h = go r h
    where
      go : (x : Result A Refusal) → Stays m m₁ x → Keeps m (noted_by x m₁) x
      go (Ok a) z = z
      go (Err e) z = ap (noted e) z

-- a call that does a step and then remembers a foreign word keeps its promise
pub promised : {A : Type 0} (c : Call A) (f : Machine → Machine × Result A Refusal) → ((s : State) → Plain (c.refusals s)) → (m m' : Machine) (r : Result A Refusal) →
    Answers c m (f m).0 (f m).1 → Stays m (f m).0 (f m).1 → Sticks m (f m).1 → (m₁ : Machine) → (m₁, r) ≡ f m → m' ≡ noted_by r m₁ → Promised c f m m' r
promised {A} c f plain m m' r a b s m₁ e n =
    let P : Machine × Result A Refusal → Type 0 = λ y. Answers c m y.0 y.1 × Stays m y.0 y.1 × Sticks m y.1 in
    let z : Answers c m m₁ r × Stays m m₁ r × Sticks m r = subst P (sym e) (a, b, s) in
    rw n (record { does = (m₁, e, refl); answers = noted-answers c plain m m₁ r z.0; keeps = noted-keeps c plain m m₁ r z.1; sticks = z.2 })
