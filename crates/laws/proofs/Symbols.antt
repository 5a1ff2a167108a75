-- The making of a symbol.
use Rattle.std.proofs.Common.{◌≡◌, ℕ, zero, suc, ◌<◌, Bool, true, false, cond, not, ◌&&◌, ◌||◌, eqb, leb, List, [], ◌∷◌, get_or, Err, Result, refl, ◌∙◌, arith}
use Rattle.std.proofs.lemmas.Bool.{leb-true, and_parts}
use Rattle.words.specs.Words.{null_word, trap_word}
use Rattle.kinds.specs.Kinds.{is_a}
use Rattle.answers.specs.declared.Refusal.{Refusal}
use Rattle.answers.specs.declared.Refusal.TheVariants.{WrongKind, DynamicInReadOnly, NoRoom}
use Rattle.graph.specs.Graph.{null, trap, Value, plain, string, symbol, Object}
use Rattle.graph.specs.Lawful.{class_of, Known, holds}
use Rattle.graph.specs.Calls.{State, register, objects_of, new_object, is_dynamic, leaks, full, added, make_symbol}
use Rattle.layout.specs.Machine.{Machine, register_at}
use Rattle.layout.specs.Ordered.{Ordered}
use Rattle.store.specs.Checks.{dynamic_word}
use Rattle.making.specs.Make.{made}
use Rattle.making.specs.Makings.{symbol_made, string_word}
use Rattle.promises.specs.Promise.{Depicts, Answers, Stays, Sticks, short}
use Rattle.laws.proofs.Admission.{Did, admission-did, admission-stays, admission-sticks}
use Rattle.laws.proofs.Testing.{did-unless, stays-test, stays-unless, turned_two, register-class}
use Rattle.laws.proofs.MadeStays.{made-stays}
use Rattle.laws.proofs.Boxed.{boxed-did, means, dynamic-same, is_known}

-- what is done once the call is admitted
abbrev step : ℕ → ℕ → Machine → Machine × Result ℕ Refusal
step to name m =
    cond (string_word (register_at m name))
    (cond (eqb m.space 3 && dynamic_word (register_at m name)) (m, Err DynamicInReadOnly)
    (made symbol m.space (trap_word ∷ trap_word ∷ null_word ∷ register_at m name ∷ null_word ∷ null_word ∷ []) to m)) (m, Err WrongKind)

abbrev cells_of : Value → List Value
cells_of v = plain trap ∷ plain trap ∷ plain null ∷ v ∷ plain null ∷ plain null ∷ []

-- a word points to a string if what it means is one
string-same : (m : Machine) (s : State) → Depicts m s → (r : ℕ) → r < 16 → string_word (register_at m r) ≡ is_a string (class_of (objects_of s) (register s r))
unfolding string_word
string-same m s d r b = rw (register-class d.shows.0 m s.graph d.shows.1 r b) refl

module _ (control bindings to name : ℕ) (m : Machine) where
  pub symbol-answers : Answers (make_symbol (short m control bindings) to name) m (symbol_made control bindings to name m).0 (symbol_made control bindings to name m).1
  unfolding symbol_made
  symbol-answers s d =
      rw (turned_two to name 15) (admission-did control bindings (leb to 15 && leb name 15) (step to name) m
      ((not (is_a string (class_of (objects_of s) (register s name))), WrongKind) ∷ (leaks s o, DynamicInReadOnly) ∷ (full s o, NoRoom) ∷ []) 0 (added s o to) s d (λ known _. inner known))
    where
      o : Object
      o = new_object s symbol 0 (cells_of (register s name))

      inner : (leb to 15 && leb name 15) ≡ true →
          Did ((not (is_a string (class_of (objects_of s) (register s name))), WrongKind) ∷ (leaks s o, DynamicInReadOnly) ∷ (full s o, NoRoom) ∷ []) 0 (added s o to) s (step to name m)
      inner k =
          let a : name < 16 = omega (arith, leb-true name 15 (and_parts (leb to 15) (leb name 15) k).1) in
          did-unless m s (added s o to) (string_word (register_at m name)) (is_a string (class_of (objects_of s) (register s name))) WrongKind ((leaks s o, DynamicInReadOnly) ∷ (full s o, NoRoom) ∷ []) 0
          (cond (eqb m.space 3 && dynamic_word (register_at m name)) (m, Err DynamicInReadOnly) (made symbol m.space (trap_word ∷ trap_word ∷ null_word ∷ register_at m name ∷ null_word ∷ null_word ∷ []) to m)) d
          (string-same m s d name a)
          (λ named. boxed-did m s d to symbol (cells_of (register s name)) [] (trap_word ∷ trap_word ∷ null_word ∷ register_at m name ∷ null_word ∷ null_word ∷ []) refl refl refl refl (λ k l. absurd (omega (arith, l))) refl
          ((refl, tt), ((refl, tt), ((refl, tt), (means m s d name a, ((refl, tt), ((refl, tt), tt)))))) (known a) (typed named) (dynamic_word (register_at m name))
          (dynamic-same m s d name a ∙ plain-or (is_dynamic s.graph.objects (register s name))))
        where
          plain-or : (x : Bool) → x ≡ (x || false)
          plain-or true = refl
          plain-or false = refl

          known : name < 16 → (k : ℕ) → Known s.graph.objects (get_or (cells_of (register s name)) k (plain trap))
          known a zero = tt
          known a (suc zero) = tt
          known a (suc (suc zero)) = tt
          known a (suc (suc (suc zero))) = is_known m s d name a
          known a (suc (suc (suc (suc zero)))) = tt
          known a (suc (suc (suc (suc (suc zero))))) = tt
          known a (suc (suc (suc (suc (suc (suc k)))))) = tt

          typed : is_a string (class_of (objects_of s) (register s name)) ≡ true → (k : ℕ) → k < 6 → holds symbol k (class_of s.graph.objects (get_or (cells_of (register s name)) k (plain trap))) ≡ true
          typed e zero l = refl
          typed e (suc zero) l = refl
          typed e (suc (suc zero)) l = refl
          typed e (suc (suc (suc zero))) l = rw e refl
          typed e (suc (suc (suc (suc zero)))) l = refl
          typed e (suc (suc (suc (suc (suc zero))))) l = refl
          typed e (suc (suc (suc (suc (suc (suc k)))))) l = absurd (omega arith)

  pub symbol-stays : Ordered m.table.starts m.table.lows m.table.highs → m.table.now < 2 → m.space < 4 → Stays m (symbol_made control bindings to name m).0 (symbol_made control bindings to name m).1
  unfolding symbol_made
  symbol-stays o now known =
      admission-stays control bindings (leb to 15 && leb name 15) (step to name) m
      (λ _ _. stays-unless m (string_word (register_at m name)) WrongKind
      (cond (eqb m.space 3 && dynamic_word (register_at m name)) (m, Err DynamicInReadOnly) (made symbol m.space (trap_word ∷ trap_word ∷ null_word ∷ register_at m name ∷ null_word ∷ null_word ∷ []) to m))
      (λ _. stays-test m (eqb m.space 3 && dynamic_word (register_at m name)) DynamicInReadOnly (made symbol m.space (trap_word ∷ trap_word ∷ null_word ∷ register_at m name ∷ null_word ∷ null_word ∷ []) to m)
      (λ _. made-stays symbol m.space (trap_word ∷ trap_word ∷ null_word ∷ register_at m name ∷ null_word ∷ null_word ∷ []) to m o now known)))

  pub symbol-sticks : Sticks m (symbol_made control bindings to name m).1
  unfolding symbol_made
  symbol-sticks = admission-sticks control bindings (leb to 15 && leb name 15) (step to name) m
