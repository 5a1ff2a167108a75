-- A boxed object is made of what registers hold.
use Rattle.std.proofs.Common.{◌≡◌, ℕ, ◌+◌, ◌<◌, Bool, true, false, cond, not, ◌&&◌, ◌||◌, eqb, List, [], ◌∷◌, ◌++◌, length, get_or, Err, sym, refl, ap, ◌∙◌}
use Rattle.std.proofs.lemmas.List.{length-append}
use Rattle.kinds.specs.Kinds.{is_unset, accessible}
use Rattle.answers.specs.declared.Refusal.TheVariants.{DynamicInReadOnly, NoRoom}
use Rattle.graph.specs.Graph.{trap, Value, plain, Kind, Object}
use Rattle.graph.specs.Shape.{boxed, heads, size, head_word, want, Counted}
use Rattle.graph.specs.Lawful.{class_of, Known, holds}
use Rattle.graph.specs.Calls.{State, register, new_object, is_dynamic, any_dynamic, leaks, full, added}
use Rattle.graph.proofs.Shape.{size-boxed}
use Rattle.layout.specs.Machine.{Machine, register_at}
use Rattle.layout.specs.Places.{Means, Fits}
use Rattle.store.specs.Checks.{dynamic_word}
use Rattle.making.specs.Make.{made}
use Rattle.promises.specs.Promise.{Depicts}
use Rattle.laws.proofs.Admission.{Did}
use Rattle.laws.proofs.Testing.{did-test, register-means, register-dynamic}
use Rattle.laws.proofs.MadeLaw.{made-did}
use Rattle.laws.proofs.NewObjects.{shaped-boxed, Each, each_at, fit_words}

pub both : (a b c d : Bool) → a ≡ c → b ≡ d → (a && b) ≡ (c && d)
both a b c d e f = rw (e, f) refl

-- a boxed object is made, but not with a dynamic value in read-only space
module _ (m : Machine) (s : State) (d : Depicts m s) (to : ℕ) (κ : Kind) (vs : List Value) (hs ws : List ℕ) (b : boxed κ ≡ true) (access : accessible κ 0 ≡ true) (counted : Counted κ (length vs))
    (front : length hs ≡ heads κ) (head : (k : ℕ) → k < heads κ → get_or hs k 0 ≡ head_word (new_object s κ 0 vs) k) (many : length ws ≡ length vs) (each : Each d.shows.0 ws vs)
    (known : (k : ℕ) → Known s.graph.objects (get_or vs k (plain trap)))
    (typed : (k : ℕ) → k < length vs → holds κ k (class_of s.graph.objects (get_or vs k (plain trap))) ≡ true) where
  abbrev o : Object
  o = new_object s κ 0 vs

  size_is : size o ≡ heads κ + length ws
  size_is = rw many (size-boxed o b)

  fit : (k : ℕ) → k < size (new_object s κ 0 vs) → Fits d.shows.0 false (get_or (hs ++ ws) k 0) (want (new_object s κ 0 vs) k)
  fit k l = fit_words d.shows.0 o hs ws front head (λ q z. rw b (each_at d.shows.0 ws vs each q z)) k (rw size_is at l)

  pub boxed-did : (x : Bool) → x ≡ any_dynamic s.graph.objects vs →
      Did ((leaks s (new_object s κ 0 vs), DynamicInReadOnly) ∷ (full s (new_object s κ 0 vs), NoRoom) ∷ []) 0 (added s (new_object s κ 0 vs) to) s
      (cond (eqb m.space 3 && x) (m, Err DynamicInReadOnly) (made κ m.space (hs ++ ws) to m))
  boxed-did x e =
      did-test m s (added s o to) (eqb m.space 3 && x) (leaks s o) DynamicInReadOnly ((full s o, NoRoom) ∷ []) 0 (made κ m.space (hs ++ ws) to m) d
      (both (eqb m.space 3) x (eqb s.graph.space 3) (any_dynamic s.graph.objects vs) (ap (λ n. eqb n 3) d.shows.1.space) e)
      (λ z. made-did m s d o (shaped-boxed s κ vs b access counted) refl refl known (λ _. typed) (hs ++ ws) (length-append hs ws ∙ ap (λ n. n + length ws) front ∙ sym size_is) fit to z)

-- a register of a state has a value
module _ (m : Machine) (s : State) (d : Depicts m s) (r : ℕ) (b : r < 16) where
  pub means : Means d.shows.0 false (register_at m r) (register s r)
  means = register-means d.shows.0 m s.graph d.shows.1 r b

  pub dynamic-same : dynamic_word (register_at m r) ≡ is_dynamic s.graph.objects (register s r)
  dynamic-same = register-dynamic d.shows.0 m s.graph d.shows.1 r b

  pub is_set : not (is_unset (class_of s.graph.objects (register s r))) || false ≡ true
  is_set = rw (d.shows.1.lawful.registers_set r b) refl

  pub is_known : Known s.graph.objects (register s r)
  is_known = d.shows.1.lawful.registers_known r
