-- The making of a vector.
use Rattle.std.proofs.Common.{◌≡◌, ℕ, zero, suc, ◌+◌, ◌%◌, ◌<◌, true, false, cond, ◌&&◌, eqb, ltb, leb, List, [], ◌∷◌, ◌++◌, length, get_or, replicate, Err, Result, sym, refl, ap, ◌∙◌, arith}
use Rattle.std.proofs.lemmas.Bool.{leb-true, ltb-false, and_parts}
use Rattle.std.proofs.lemmas.List.{length-replicate, get_or-replicate}
use Rattle.words.specs.Words.{header_word}
use Rattle.answers.specs.declared.Refusal.{Refusal}
use Rattle.answers.specs.declared.Refusal.TheVariants.{OutOfBounds, DynamicInReadOnly, NoRoom}
use Rattle.graph.specs.Graph.{trap, Value, plain, bvector, Object}
use Rattle.graph.specs.Shape.{head_word}
use Rattle.graph.specs.Lawful.{class_of, Known, holds}
use Rattle.graph.specs.Calls.{register, new_object, leaks, full, added, make_vector, max_count}
use Rattle.layout.specs.Machine.{Machine, register_at}
use Rattle.layout.specs.Ordered.{Ordered}
use Rattle.store.specs.Checks.{dynamic_word}
use Rattle.making.specs.Make.{made}
use Rattle.making.specs.Makings.{vector_made}
use Rattle.promises.specs.Promise.{Answers, Stays, Sticks, short}
use Rattle.laws.proofs.Admission.{Did, admission-did, admission-stays, admission-sticks}
use Rattle.laws.proofs.Testing.{did-test, stays-test, turned_two}
use Rattle.laws.proofs.MadeStays.{made-stays}
use Rattle.laws.proofs.NewObjects.{each-replicate, any-replicate, each_same}
use Rattle.laws.proofs.Boxed.{boxed-did, means, dynamic-same, is_set, is_known}

abbrev words_for : ℕ → ℕ → List ℕ
words_for count w = (header_word ((count + 1) % 16777216) ∷ []) ++ replicate count w

-- what is done once the call is admitted
abbrev step : ℕ → ℕ → ℕ → Machine → Machine × Result ℕ Refusal
step to count fill m =
    cond (ltb 65534 count) (m, Err OutOfBounds)
    (cond (eqb m.space 3 && (ltb 0 count && dynamic_word (register_at m fill))) (m, Err DynamicInReadOnly) (made bvector m.space (words_for count (register_at m fill)) to m))

module _ (control bindings to count fill : ℕ) (m : Machine) where
  pub vector-answers : Answers (make_vector (short m control bindings) to count fill) m (vector_made control bindings to count fill m).0 (vector_made control bindings to count fill m).1
  unfolding vector_made
  vector-answers s d =
      rw (turned_two to fill 15) (admission-did control bindings (leb to 15 && leb fill 15) (step to count fill) m
      ((ltb max_count count, OutOfBounds) ∷ (leaks s o, DynamicInReadOnly) ∷ (full s o, NoRoom) ∷ []) 0 (added s o to) s d (λ known _. inner known))
    where
      v : Value
      v = register s fill

      o : Object
      o = new_object s bvector 0 (replicate count (register s fill))

      inner : (leb to 15 && leb fill 15) ≡ true → Did ((ltb max_count count, OutOfBounds) ∷ (leaks s o, DynamicInReadOnly) ∷ (full s o, NoRoom) ∷ []) 0 (added s o to) s (step to count fill m)
      inner k =
          let a : fill < 16 = omega (arith, leb-true fill 15 (and_parts (leb to 15) (leb fill 15) k).1) in
          did-test m s (added s o to) (ltb 65534 count) (ltb max_count count) OutOfBounds ((leaks s o, DynamicInReadOnly) ∷ (full s o, NoRoom) ∷ []) 0
          (cond (eqb m.space 3 && (ltb 0 count && dynamic_word (register_at m fill))) (m, Err DynamicInReadOnly) (made bvector m.space (words_for count (register_at m fill)) to m)) d refl
          (λ e. boxed-did m s d to bvector (replicate count v) (header_word ((count + 1) % 16777216) ∷ []) (replicate count (register_at m fill)) refl refl (counted e) refl (head e)
          (length-replicate count (register_at m fill) ∙ sym (length-replicate count v)) (each_same d.shows.0 count (register_at m fill) v (means m s d fill a))
          (each-replicate (Known s.graph.objects) count v (is_known m s d fill a) tt) (typed a) (ltb 0 count && dynamic_word (register_at m fill))
          (ap (λ x. ltb 0 count && x) (dynamic-same m s d fill a) ∙ sym (any-replicate s.graph.objects count v)))
        where
          counted : ltb 65534 count ≡ false → length (replicate count (register s fill)) < 65535
          counted e = omega (arith, ltb-false 65534 count e, length-replicate count v)

          head : ltb 65534 count ≡ false → (k : ℕ) → k < 1 → get_or (header_word ((count + 1) % 16777216) ∷ []) k 0 ≡ head_word (new_object s bvector 0 (replicate count (register s fill))) k
          head e zero l = omega (arith, ltb-false 65534 count e, length-replicate count v)
          head e (suc k) l = absurd (omega arith)

          typed : fill < 16 → (k : ℕ) → k < length (replicate count (register s fill)) → holds bvector k (class_of s.graph.objects (get_or (replicate count (register s fill)) k (plain trap))) ≡ true
          typed a k l = rw (get_or-replicate count k v (plain trap) (omega (arith, l, length-replicate count v))) (is_set m s d fill a)

  pub vector-stays : Ordered m.table.starts m.table.lows m.table.highs → m.table.now < 2 → m.space < 4 → Stays m (vector_made control bindings to count fill m).0 (vector_made control bindings to count fill m).1
  unfolding vector_made
  vector-stays o now known =
      admission-stays control bindings (leb to 15 && leb fill 15) (step to count fill) m
      (λ _ _. stays-test m (ltb 65534 count) OutOfBounds
      (cond (eqb m.space 3 && (ltb 0 count && dynamic_word (register_at m fill))) (m, Err DynamicInReadOnly) (made bvector m.space (words_for count (register_at m fill)) to m))
      (λ _. stays-test m (eqb m.space 3 && (ltb 0 count && dynamic_word (register_at m fill))) DynamicInReadOnly (made bvector m.space (words_for count (register_at m fill)) to m)
      (λ _. made-stays bvector m.space (words_for count (register_at m fill)) to m o now known)))

  pub vector-sticks : Sticks m (vector_made control bindings to count fill m).1
  unfolding vector_made
  vector-sticks = admission-sticks control bindings (leb to 15 && leb fill 15) (step to count fill) m
