-- Tests that a machine and a graph make alike, one after another.
use Rattle.std.proofs.Common.{◌≡◌, ℕ, zero, suc, ◌<◌, Bool, true, false, cond, not, ◌&&◌, ◌||◌, eqb, ltb, leb, ◌≢◌, List, [], ◌∷◌, get_or, Some, Err, Result, sym, refl, ◌∙◌, arith}
use Rattle.std.proofs.lemmas.Bool.Decides.{nat_tests}
use Rattle.std.proofs.lemmas.Bool.{true≢false, or_parts}
use Rattle.answers.specs.declared.Refusal.{Refusal}
use Rattle.kinds.specs.Kinds.{word_class}
use Rattle.graph.specs.Graph.{trap, Value, plain, ref, Object, Graph}
use Rattle.graph.specs.Lawful.{class_of, Known}
use Rattle.graph.specs.Calls.{State, is_dynamic, any_dynamic}
use Rattle.layout.specs.Machine.{Machine, register_at}
use Rattle.layout.specs.Places.{Places, Means}
use Rattle.layout.specs.Shows.{Shown, Steady, registers_of}
use Rattle.layout.proofs.Meaning.{shows-register}
use Rattle.store.specs.Checks.{dynamic_word}
use Rattle.promises.specs.Promise.{Depicts, Stays}
use Rattle.laws.proofs.Admission.{Did}
use Rattle.laws.proofs.Registers.{word-class, word-dynamic}

-- a test that refuses
pub did-test : {A : Type 0} (m : Machine) (s done : State) (b c : Bool) (e : Refusal) (rest : List (Bool × Refusal)) (answer : A) (x : Machine × Result A Refusal) → Depicts m s → b ≡ c →
    (c ≡ false → Did rest answer done s x) → Did ((c, e) ∷ rest) answer done s (cond b (m, Err e) x)
did-test m s done true true e rest answer x d q f = (refl, d)
did-test m s done true false e rest answer x d q f = absurd (true≢false q)
did-test m s done false true e rest answer x d q f = absurd (true≢false (sym q))
did-test m s done false false e rest answer x d q f = f refl

-- a test that grants
pub did-unless : {A : Type 0} (m : Machine) (s done : State) (b c : Bool) (e : Refusal) (rest : List (Bool × Refusal)) (answer : A) (x : Machine × Result A Refusal) → Depicts m s → b ≡ c →
    (c ≡ true → Did rest answer done s x) → Did ((not c, e) ∷ rest) answer done s (cond b x (m, Err e))
did-unless m s done true true e rest answer x d q f = f refl
did-unless m s done true false e rest answer x d q f = absurd (true≢false q)
did-unless m s done false true e rest answer x d q f = absurd (true≢false (sym q))
did-unless m s done false false e rest answer x d q f = (refl, d)

pub stays-test : {A : Type 0} (m : Machine) (b : Bool) (e : Refusal) (x : Machine × Result A Refusal) → (b ≡ false → Stays m x.0 x.1) → Stays m (cond b (m, Err e) x).0 (cond b (m, Err e) x).1
stays-test m true e x f = refl
stays-test m false e x f = f refl

pub stays-unless : {A : Type 0} (m : Machine) (b : Bool) (e : Refusal) (x : Machine × Result A Refusal) → (b ≡ true → Stays m x.0 x.1) → Stays m (cond b x (m, Err e)).0 (cond b x (m, Err e)).1
stays-unless m true e x f = f refl
stays-unless m false e x f = refl

-- registers that are named are among the sixteen
pub turned_two : (a b n : ℕ) → ltb 15 a || ltb n b ≡ not (leb a 15 && leb b n)
turned_two a b n = grind (arith, nat_tests)

pub turned-three : (a b c : ℕ) → ltb 15 a || (ltb 15 b || ltb 15 c) ≡ not (leb a 15 && (leb b 15 && leb c 15))
turned-three a b c = grind (arith, nat_tests)

module _ (p : Places) (m : Machine) (g : Graph) (h : Shown registers_of p m g) (r : ℕ) (b : r < 16) where
  pub register-means : Means p false (register_at m r) (get_or g.registers r (plain trap))
  register-means = shows-register registers_of p m g h r b (omega (arith, h.lawful.registers_long))

  pub register-dynamic : dynamic_word (register_at m r) ≡ is_dynamic g.objects (get_or g.registers r (plain trap))
  register-dynamic = word-dynamic registers_of p m g h (register_at m r) (get_or g.registers r (plain trap)) register-means

  pub register-class : word_class (register_at m r) ≡ Some (class_of g.objects (get_or g.registers r (plain trap)))
  register-class = word-class registers_of p m g h (register_at m r) (get_or g.registers r (plain trap)) register-means

-- where no value of a list is dynamic, none at any place is
pub none-dynamic : (os : List Object) (vs : List Value) → any_dynamic os vs ≡ false → (k : ℕ) → is_dynamic os (get_or vs k (plain trap)) ≡ false
none-dynamic os [] e k = refl
none-dynamic os (v ∷ vs) e zero = (or_parts (is_dynamic os v) (any_dynamic os vs) e).0
none-dynamic os (v ∷ vs) e (suc k) = none-dynamic os vs (or_parts (is_dynamic os v) (any_dynamic os vs) e).1 k

-- a known value that is not dynamic is steady
pub steady-value : (p : Places) (m : Machine) (g : Graph) → Shown registers_of p m g → (v : Value) → Known g.objects v → is_dynamic g.objects v ≡ false → Steady p v
steady-value p m g h (plain x) k e = tt
steady-value p m g h (ref i) k e =
    let n : i < p.count = omega (arith, h.memory.count_is) in
    let d : p.space i ≢ 0 = (λ z. true≢false (sym (rw (← h.memory.space_is i n, z) (the_zero)) ∙ e)) in
    (h.rules.steady i n d, d)
  where
    the_zero : eqb 0 0 ≡ true
    the_zero = refl
