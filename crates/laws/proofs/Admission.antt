-- What every call asks first, of machines and of graphs.
use Rattle.std.proofs.Common.{◌≡◌, ℕ, Bool, true, false, cond, not, ltb, leb, List, [], ◌∷◌, length, is_ok, Some, None, Ok, Err, Option, Result, sym, refl, ap, subst, arith}
use Rattle.std.proofs.lemmas.Bool.Decides.{nat_tests}
use Rattle.answers.specs.declared.Place.{Place}
use Rattle.answers.specs.declared.Refusal.{Refusal}
use Rattle.answers.specs.declared.Refusal.TheVariants.{Unknown, Short, Foreign}
use Rattle.graph.specs.Calls.{State, judged}
use Rattle.layout.specs.Machine.{Machine}
use Rattle.store.specs.Checks.{admitted, long_enough}
use Rattle.store.specs.Flow.{after, admission}
use Rattle.promises.specs.Promise.{Depicts, short, Stays, Sticks}

-- A step answers as the graph does, and leaves what shows the graph after.
abbrev pub Did : {A : Type 0} → List (Bool × Refusal) → A → State → State → Machine × Result A Refusal → Type 0
Did refusals answer done s x = (x.1 ≡ judged refusals answer) × Depicts x.0 (cond (is_ok x.1) done s)

-- a test that refuses, or the tests after it
pub did-next : {A : Type 0} (m : Machine) (b : Bool) (e : Refusal) (refusals : List (Bool × Refusal)) (answer : A) (done s : State) (x : Machine × Result A Refusal) → Depicts m s →
    (b ≡ true → x ≡ (m, Err e)) → (b ≡ false → Did refusals answer done s x) → Did ((b, e) ∷ refusals) answer done s x
did-next m true e refusals answer done s x d f g = rw (f refl) (refl, d)
did-next m false e refusals answer done s x d f g = g refl

-- no test refuses
pub did-done : {A : Type 0} (m' : Machine) (answer : A) (done s : State) (x : Machine × Result A Refusal) → x ≡ (m', Ok answer) → Depicts m' done → Did [] answer done s x
did-done m' answer done s x e d = rw e (refl, d)

-- the three tests before any other
tested : {A : Type 0} (m : Machine) (known enough : Bool) (x : Machine × Result A Refusal) → Machine × Result A Refusal
tested m known enough x = cond known (cond enough x (m, Err Short)) (m, Err Unknown)

after-tests : {A : Type 0} (m : Machine) (known enough : Bool) (x : Machine × Result A Refusal) (o : Option Place) → o ≡ None → after m (admitted o known enough) (λ _. x) ≡ tested m known enough x
unfolding admitted tested
after-tests m known enough x (Some p) e = let z : ◌≡◌ {A = ℕ} 0 1 = cc in absurd (omega arith)
after-tests m true true x None e = refl
after-tests m true false x None e = refl
after-tests m false enough x None e = refl

tests-did : {A : Type 0} (m : Machine) (known enough : Bool) (x : Machine × Result A Refusal) (refusals : List (Bool × Refusal)) (answer : A) (done s : State) → Depicts m s →
    (known ≡ true → enough ≡ true → Did refusals answer done s x) → Did ((not known, Unknown) ∷ (not enough, Short) ∷ refusals) answer done s (tested m known enough x)
unfolding tested
tests-did m true true x refusals answer done s d f = f refl refl
tests-did m true false x refusals answer done s d f = (refl, d)
tests-did m false enough x refusals answer done s d f = (refl, d)

after-stays : {A : Type 0} (m : Machine) (known enough : Bool) (x : Machine × Result A Refusal) (o : Option Place) → (known ≡ true → enough ≡ true → Stays m x.0 x.1) →
    Stays m (after m (admitted o known enough) (λ _. x)).0 (after m (admitted o known enough) (λ _. x)).1
unfolding admitted
after-stays m known enough x (Some p) f = refl
after-stays m true true x None f = f refl refl
after-stays m true false x None f = refl
after-stays m false enough x None f = refl

after-sticks : {A : Type 0} (m : Machine) (known enough : Bool) (x : Machine × Result A Refusal) (o : Option Place) (p : Place) → o ≡ Some p → (after m (admitted o known enough) (λ _. x)).1 ≡ Err (Foreign p)
unfolding admitted
after-sticks m known enough x (Some q) p e = let z : q ≡ p = cc in ap (λ y. Err (Foreign y)) z
after-sticks m known enough x None p e = let z : ◌≡◌ {A = ℕ} 0 1 = cc in absurd (omega arith)

-- the words that are lent suffice
abbrev pub enough : ℕ → ℕ → Machine → Bool
enough control bindings m = long_enough m.table (length m.words) control bindings

module _ {A : Type 0} (control bindings : ℕ) (known : Bool) (f : Machine → Machine × Result A Refusal) (m : Machine) where
  pub admission-did : (refusals : List (Bool × Refusal)) (answer : A) (done s : State) → Depicts m s → (known ≡ true → enough control bindings m ≡ true → Did refusals answer done s (f m)) →
      Did ((not known, Unknown) ∷ (short m control bindings, Short) ∷ refusals) answer done s (admission control bindings known f m)
  admission-did refusals answer done s d inner =
      let e = after-tests m known (enough control bindings m) (f m) m.foreign d.shows.1.sound in
      let P : Machine × Result A Refusal → Type 0 = λ x. Did ((not known, Unknown) ∷ (short m control bindings, Short) ∷ refusals) answer done s x in
      subst P (sym e) (tests-did m known (enough control bindings m) (f m) refusals answer done s d inner)

  pub admission-stays : (known ≡ true → enough control bindings m ≡ true → Stays m (f m).0 (f m).1) → Stays m (admission control bindings known f m).0 (admission control bindings known f m).1
  admission-stays inner = after-stays m known (enough control bindings m) (f m) m.foreign inner

  pub admission-sticks : Sticks m (admission control bindings known f m).1
  admission-sticks p e = after-sticks m known (enough control bindings m) (f m) m.foreign p e

-- a register above 15 is none
pub turned-one : (a b : ℕ) → ltb b a ≡ not (leb a b)
turned-one a b = grind (arith, nat_tests)
