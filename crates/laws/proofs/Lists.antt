-- The making of a list.
use Rattle.std.proofs.Common.{◌≡◌, ℕ, zero, suc, ◌<◌, Bool, true, false, cond, ◌&&◌, ◌||◌, eqb, leb, [], ◌∷◌, get_or, Err, Result, refl, arith}
use Rattle.std.proofs.lemmas.Bool.{leb-true, and_parts}
use Rattle.answers.specs.declared.Refusal.{Refusal}
use Rattle.answers.specs.declared.Refusal.TheVariants.{DynamicInReadOnly, NoRoom}
use Rattle.graph.specs.Graph.{trap, plain, list, Object}
use Rattle.graph.specs.Lawful.{class_of, Known, holds}
use Rattle.graph.specs.Calls.{register, new_object, is_dynamic, leaks, full, added, make_list}
use Rattle.layout.specs.Machine.{Machine, register_at}
use Rattle.layout.specs.Ordered.{Ordered}
use Rattle.store.specs.Checks.{dynamic_word}
use Rattle.making.specs.Make.{made}
use Rattle.making.specs.Makings.{list_made}
use Rattle.promises.specs.Promise.{Answers, Stays, Sticks, short}
use Rattle.laws.proofs.Admission.{Did, admission-did, admission-stays, admission-sticks}
use Rattle.laws.proofs.Testing.{stays-test, turned-three}
use Rattle.laws.proofs.MadeStays.{made-stays}
use Rattle.laws.proofs.Boxed.{boxed-did, means, dynamic-same, is_set, is_known}

-- what is done once the call is admitted
abbrev step : ℕ → ℕ → ℕ → Machine → Machine × Result ℕ Refusal
step to car cdr m =
    cond (eqb m.space 3 && (dynamic_word (register_at m car) || dynamic_word (register_at m cdr))) (m, Err DynamicInReadOnly) (made list m.space (register_at m car ∷ register_at m cdr ∷ []) to m)

module _ (control bindings to car cdr : ℕ) (m : Machine) where
  pub list-answers : Answers (make_list (short m control bindings) to car cdr) m (list_made control bindings to car cdr m).0 (list_made control bindings to car cdr m).1
  unfolding list_made
  list-answers s d =
      rw (turned-three to car cdr) (admission-did control bindings (leb to 15 && (leb car 15 && leb cdr 15))
      (step to car cdr) m ((leaks s o, DynamicInReadOnly) ∷ (full s o, NoRoom) ∷ []) 0 (added s o to) s d (λ known _. inner known))
    where
      o : Object
      o = new_object s list 0 (register s car ∷ register s cdr ∷ [])

      inner : (leb to 15 && (leb car 15 && leb cdr 15)) ≡ true → Did ((leaks s o, DynamicInReadOnly) ∷ (full s o, NoRoom) ∷ []) 0 (added s o to) s
          (step to car cdr m)
      inner k =
          let q = and_parts (leb car 15) (leb cdr 15) (and_parts (leb to 15) (leb car 15 && leb cdr 15) k).1 in
          let a : car < 16 = omega (arith, leb-true car 15 q.0) in
          let b : cdr < 16 = omega (arith, leb-true cdr 15 q.1) in
          boxed-did m s d to list (register s car ∷ register s cdr ∷ []) [] (register_at m car ∷ register_at m cdr ∷ []) refl refl refl refl (λ k l. absurd (omega (arith, l))) refl
          (means m s d car a, (means m s d cdr b, tt)) (known a b) (typed a b) (dynamic_word (register_at m car) || dynamic_word (register_at m cdr)) (rw (dynamic-same m s d car a, dynamic-same m s d cdr b) (plain-or (is_dynamic s.graph.objects (register s car)) (is_dynamic s.graph.objects (register s cdr))))
        where
          plain-or : (x y : Bool) → (x || y) ≡ (x || (y || false))
          plain-or true y = refl
          plain-or false true = refl
          plain-or false false = refl

          known : car < 16 → cdr < 16 → (k : ℕ) → Known s.graph.objects (get_or (register s car ∷ register s cdr ∷ []) k (plain trap))
          known a b zero = is_known m s d car a
          known a b (suc zero) = is_known m s d cdr b
          known a b (suc (suc k)) = tt

          typed : car < 16 → cdr < 16 → (k : ℕ) → k < 2 → holds list k (class_of s.graph.objects (get_or (register s car ∷ register s cdr ∷ []) k (plain trap))) ≡ true
          typed a b zero l = is_set m s d car a
          typed a b (suc zero) l = is_set m s d cdr b
          typed a b (suc (suc k)) l = absurd (omega arith)

  pub list-stays : Ordered m.table.starts m.table.lows m.table.highs → m.table.now < 2 → m.space < 4 → Stays m (list_made control bindings to car cdr m).0 (list_made control bindings to car cdr m).1
  unfolding list_made
  list-stays o now known =
      admission-stays control bindings (leb to 15 && (leb car 15 && leb cdr 15)) (step to car cdr) m
      (λ _ _. stays-test m (eqb m.space 3 && (dynamic_word (register_at m car) || dynamic_word (register_at m cdr))) DynamicInReadOnly (made list m.space (register_at m car ∷ register_at m cdr ∷ []) to m)
      (λ _. made-stays list m.space (register_at m car ∷ register_at m cdr ∷ []) to m o now known))

  pub list-sticks : Sticks m (list_made control bindings to car cdr m).1
  unfolding list_made
  list-sticks = admission-sticks control bindings (leb to 15 && (leb car 15 && leb cdr 15)) (step to car cdr) m
