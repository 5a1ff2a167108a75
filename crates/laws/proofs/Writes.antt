-- Writing answers as the graph does.
use Rattle.std.proofs.Common.{◌≡◌, ℕ, ◌<◌, Bool, true, false, not, ◌&&◌, eqb, leb, List, [], ◌∷◌, length, Ok, Err, Result, sym, refl, ap, ◌∙◌}
use Rattle.std.proofs.lemmas.Bool.{leb-false, true≢false, eq-eqb}
use Rattle.answers.specs.declared.Refusal.{Refusal}
use Rattle.answers.specs.declared.Refusal.TheVariants.{WrongKind, OutOfBounds, Unfit, Frozen, DynamicInReadOnly}
use Rattle.graph.specs.Graph.{Value, plain, ref, Graph, object, put_cell}
use Rattle.graph.specs.Calls.{State, register, objects_of, with_graph, is_object, identity, target, is_dynamic, fits, write}
use Rattle.layout.specs.Machine.{Machine, register_at, with_words}
use Rattle.layout.specs.Places.{Places, Means}
use Rattle.layout.specs.Shows.{Steady}
use Rattle.layout.proofs.Meaning.{means-ref}
use Rattle.store.specs.Checks.{dynamic_word}
use Rattle.store.specs.Flow.{after}
use Rattle.objects.specs.declared.opened.Opened.{Opened}
use Rattle.objects.specs.Open.{opened, opened_with}
use Rattle.cells.specs.Cells.{fits_cell, frozen_cell, saved}
use Rattle.access.specs.Access.{write_refused, written, write_done}
use Rattle.promises.specs.Promise.{Depicts, Answers, short}
use Rattle.laws.proofs.Admission.{Did, did-next, did-done, admission-did}
use Rattle.laws.proofs.Registers.{word-dynamic}
use Rattle.laws.proofs.Opening.{opened-none, opened-there}
use Rattle.laws.proofs.Fitting.{fits-there, frozen-there, read-only-there}
use Rattle.laws.proofs.Saving.{Saves, saves-there}
use Rattle.laws.proofs.Access.{register-means, both, turned_two, opened-fails, opened-goes}

-- the last step of a writing
abbrev last : Machine → ℕ → ℕ → Opened → Machine × Result (Unit {0}) Refusal
last m k w o = after m (write_refused m.table o k w) (λ _. written m (saved o k w m.words))

-- the ways through it
module _ (m : Machine) (k w : ℕ) (o : Opened) where
  write-out : leb o.cells k ≡ true → last m k w o ≡ (m, Err OutOfBounds)
  unfolding write_refused
  write-out a = rw a refl

  write-unfit : leb o.cells k ≡ false → fits_cell o k w ≡ false → last m k w o ≡ (m, Err Unfit)
  unfolding write_refused
  write-unfit a b = rw (a, b) refl

  write-frozen : leb o.cells k ≡ false → fits_cell o k w ≡ true → frozen_cell m.table o ≡ true → last m k w o ≡ (m, Err Frozen)
  unfolding write_refused
  write-frozen a b c = rw (a, b, c) refl

  write-leaks : leb o.cells k ≡ false → fits_cell o k w ≡ true → frozen_cell m.table o ≡ false → (eqb o.space 3 && dynamic_word w) ≡ true → last m k w o ≡ (m, Err DynamicInReadOnly)
  unfolding write_refused
  write-leaks a b c e = rw (a, b, c, e) refl

  write-in : leb o.cells k ≡ false → fits_cell o k w ≡ true → frozen_cell m.table o ≡ false → (eqb o.space 3 && dynamic_word w) ≡ false → (ws : List ℕ) → saved o k w m.words ≡ (ws, Ok tt) → last m k w o ≡ (with_words m ws, Ok tt)
  unfolding write_refused
  write-in a b c e ws f = rw (a, b, c, e, f) refl

not-true : (b : Bool) → not b ≡ true → b ≡ false
not-true true h = absurd (true≢false (sym h))
not-true false h = refl

not-false : (b : Bool) → not b ≡ false → b ≡ true
not-false true h = refl
not-false false h = absurd (true≢false h)

module _ (k into value : ℕ) (m : Machine) (s : State) (d : Depicts m s) (u : Value) (hu : Means d.shows.0 false (register_at m value) u) where
  abbrev g : Graph
  g = s.graph

  abbrev rest : Value → List (Bool × Refusal)
  rest v = (not (is_object v), WrongKind) ∷ (leb (length (target s v).cells) k, OutOfBounds) ∷ (not (fits (objects_of s) (target s v) k u), Unfit) ∷
      ((target s v).frozen, Frozen) ∷ (eqb (target s v).space 3 && is_dynamic (objects_of s) u, DynamicInReadOnly) ∷ []

  abbrev done : Value → State
  done v = with_graph s (put_cell s.graph (identity s v) k u)

  -- the tests from one on
  abbrev from-leak : ℕ → List (Bool × Refusal)
  from-leak i = (eqb (object s.graph i).space 3 && is_dynamic (objects_of s) u, DynamicInReadOnly) ∷ []

  abbrev from-frozen : ℕ → List (Bool × Refusal)
  from-frozen i = ((object s.graph i).frozen, Frozen) ∷ from-leak i

  abbrev from-fit : ℕ → List (Bool × Refusal)
  from-fit i = (not (fits (objects_of s) (object s.graph i) k u), Unfit) ∷ from-frozen i

  -- a read-only object stays without dynamic references
  steady-value : (i : ℕ) → Means d.shows.0 false (register_at m into) (ref i) → (v : Value) → Means d.shows.0 false (register_at m value) v → (eqb (object g i).space 3 && is_dynamic (objects_of s) v) ≡ false → d.shows.0.space i ≡ 3 → Steady d.shows.0 v
  steady-value i h (plain x) e z three = tt
  steady-value i h (ref j) e z three =
      let p : Places = d.shows.0 in
      let q = d.shows.1 in
      let a = means-ref p (register_at m value) j e in
      let n = q.map.range i (means-ref p (register_at m into) i h).0 in
      let t : eqb (object g i).space 3 ≡ true = eq-eqb (object g i).space 3 (sym (q.memory.space_is i n) ∙ three) in
      let y : eqb (object g j).space 0 ≡ false = (rw t at z) in
      (a.0, λ c. true≢false (sym (eq-eqb (object g j).space 0 (sym (q.memory.space_is j (q.map.range j a.0)) ∙ c)) ∙ y))

  write_cell : (i : ℕ) → Means d.shows.0 false (register_at m into) (ref i) → (o : Opened) → o.cells ≡ length (object s.graph i).cells →
      fits_cell o k (register_at m value) ≡ fits (objects_of s) (object s.graph i) k u → frozen_cell m.table o ≡ (object s.graph i).frozen →
      (eqb o.space 3 && dynamic_word (register_at m value)) ≡ (eqb (object s.graph i).space 3 && is_dynamic (objects_of s) u) →
      (k < length (object s.graph i).cells → fits (objects_of s) (object s.graph i) k u ≡ true → (eqb (object s.graph i).space 3 && is_dynamic (objects_of s) u) ≡ false →
      Saves d.shows.0 m s.graph i k u (saved o k (register_at m value) m.words)) →
      Did ((leb (length (object s.graph i).cells) k, OutOfBounds) ∷ from-fit i) tt (done (ref i)) s (last m k (register_at m value) o)
  unfolding Saves
  write_cell i h o n f z l save =
      did-next m (leb (length (object g i).cells) k) OutOfBounds (from-fit i) tt (done (ref i)) s x d (λ a. write-out m k w o (rw n a))
      (λ a. did-next m (not (fits (objects_of s) (object g i) k u)) Unfit (from-frozen i) tt (done (ref i)) s x d (λ b. write-unfit m k w o (rw n a) (f ∙ not-true (fits (objects_of s) (object g i) k u) b))
      (λ b. let fit = not-false (fits (objects_of s) (object g i) k u) b in
      did-next m (object g i).frozen Frozen (from-leak i) tt (done (ref i)) s x d (λ c. write-frozen m k w o (rw n a) (f ∙ fit) (z ∙ c))
      (λ c. did-next m (eqb (object g i).space 3 && is_dynamic (objects_of s) u) DynamicInReadOnly [] tt (done (ref i)) s x d (λ e. write-leaks m k w o (rw n a) (f ∙ fit) (z ∙ c) (l ∙ e))
      (λ e. let sv = save (leb-false (length (object g i).cells) k a) fit e in
      did-done (with_words m sv.0) tt (done (ref i)) s x (write-in m k w o (rw n a) (f ∙ fit) (z ∙ c) (l ∙ e) sv.0 sv.1)
      (record { shows = (d.shows.0, sv.2); used_is = d.used_is; room_is = d.room_is })))))
    where
      w : ℕ
      w = register_at m value

      x : Machine × Result (Unit {0}) Refusal
      x = last m k w o

  write-value : (v : Value) → Means d.shows.0 false (register_at m into) v → (x : Machine × Result (Unit {0}) Refusal) → x ≡ after m (opened m.table m.words (register_at m into)) (λ o. last m k (register_at m value) o) → Did (rest v) tt (done v) s x
  write-value (plain y) h x e =
      let z = e ∙ opened-fails m (register_at m into) WrongKind (λ o. last m k (register_at m value) o) (opened-none d.shows.0 m s.graph d.shows.1 (register_at m into) y h) in rw z (refl, d)
  write-value (ref i) h x e =
      let p : Places = d.shows.0 in
      let q = d.shows.1 in
      let o : Opened = opened_with m.table (register_at m into) (object g i).kind (length (object g i).cells, (object g i).access) in
      let z = e ∙ opened-goes m (register_at m into) o (λ y. last m k (register_at m value) y) (opened-there p m g q (register_at m into) i h) in
      rw z (write_cell i h o refl (fits-there p m g q (register_at m into) i h k (register_at m value) u hu) (frozen-there p m g q (register_at m into) i h)
      (ap (λ b. b && dynamic_word (register_at m value)) (read-only-there p m g q (register_at m into) i h) ∙ ap (λ b. eqb (object g i).space 3 && b) (word-dynamic 16 p m g q (register_at m value) u hu))
      (λ l ok nl. saves-there p m g q (register_at m into) i h k l (register_at m value) u hu (steady-value i h u hu nl) ok))

pub write-answers : (control bindings into k value : ℕ) (m : Machine) → Answers (write (short m control bindings) into k value) m (write_done control bindings into k value m).0 (write_done control bindings into k value m).1
unfolding write_done
write-answers control bindings into k value m s d =
    rw (turned_two into value) (admission-did control bindings (leb into 15 && leb value 15) (λ x. after x (opened x.table x.words (register_at x into)) (λ o. last x k (register_at x value) o)) m
    (refusals (register s into) (register s value)) tt (with_graph s (put_cell s.graph (identity s (register s into)) k (register s value))) s d
    (λ a e. let b = both into value a in
    write-value k into value m s d (register s value) (register-means m s d value b.1) (register s into) (register-means m s d into b.0) _ refl))
  where
    refusals : Value → Value → List (Bool × Refusal)
    refusals v u = (not (is_object v), WrongKind) ∷ (leb (length (target s v).cells) k, OutOfBounds) ∷ (not (fits (objects_of s) (target s v) k u), Unfit) ∷
        ((target s v).frozen, Frozen) ∷ (eqb (target s v).space 3 && is_dynamic (objects_of s) u, DynamicInReadOnly) ∷ []
