-- Putting, reading, telling and comparing answer as the graph does.
use Rattle.std.proofs.Common.{◌≡◌, ℕ, ◌<◌, Bool, true, false, not, ◌&&◌, ◌||◌, ltb, leb, List, [], ◌∷◌, length, Ok, Err, Result, sym, refl, ◌∙◌, inl, inr, arith}
use Rattle.std.proofs.lemmas.Bool.Decides.{nat_tests}
use Rattle.std.proofs.lemmas.Bool.{cases_Bool, leb-false, true≢false}
use Rattle.words.specs.Literals.{literal_range, literal_word, word_of}
use Rattle.words.specs.declared.literals.Literal.{Literal}
use Rattle.words.specs.declared.literals.Literal.TheVariants.{Fixnum, Character, Null}
use Rattle.words.proofs.Coding.{data-fits}
use Rattle.kinds.specs.Kinds.{is_unset}
use Rattle.answers.specs.declared.Refusal.{Refusal}
use Rattle.answers.specs.declared.Refusal.TheVariants.{Unknown, WrongKind, OutOfBounds, Unset, Short}
use Rattle.graph.specs.Graph.{Value, plain, ref, Object, object, put_register}
use Rattle.graph.specs.Lawful.{class_of}
use Rattle.graph.specs.Calls.{State, register, objects_of, with_graph, literal_value, put, read, target, cell, is_object}
use Rattle.layout.specs.Machine.{Machine, register_at, with_register, dirty}
use Rattle.layout.specs.Places.{Places, Means}
use Rattle.layout.proofs.Meaning.{shows-put, shows-register}
use Rattle.store.specs.Flow.{after}
use Rattle.objects.specs.declared.opened.Opened.{Opened}
use Rattle.objects.specs.Open.{opened, opened_with}
use Rattle.cells.specs.Cells.{loaded}
use Rattle.access.specs.Access.{put_word, put_done, read_from, read_done}
use Rattle.promises.specs.Promise.{Depicts, Answers, short}
use Rattle.laws.proofs.Admission.{Did, did-next, did-done, admission-did, turned-one}
use Rattle.laws.proofs.Opening.{opened-none, opened-there}
use Rattle.laws.proofs.Loading.{Loads, loaded-there}

-- a register is set
pub depicts-put : (m : Machine) (s : State) (d : Depicts m s) (k w : ℕ) (v : Value) → Means d.shows.0 false w v → is_unset (class_of (objects_of s) v) ≡ false →
    Depicts (with_register m k w) (with_graph s (put_register s.graph k v))
depicts-put m s d k w v h u = record { shows = (d.shows.0, shows-put 16 d.shows.0 m s.graph d.shows.1 k w v h u); used_is = d.used_is; room_is = d.room_is }

literal-means : (p : Places) (v : Literal) → literal_range v ≡ true → Means p false (literal_word v) (literal_value v)
literal-means p (Fixnum z) h = (refl, data-fits z h)
literal-means p (Character c) h = (refl, grind (arith, nat_tests))
literal-means p Null h = (refl, tt)

literal-set : (os : List Object) (v : Literal) → is_unset (class_of os (literal_value v)) ≡ false
literal-set os (Fixnum z) = refl
literal-set os (Character c) = refl
literal-set os Null = refl

pub put-answers : (control bindings to : ℕ) (v : Literal) (m : Machine) → Answers (put (short m control bindings) to v) m (put_done control bindings to v m).0 (put_done control bindings to v m).1
unfolding put_done
put-answers control bindings to v m s d =
    rw (turned-one to 15) (admission-did control bindings (leb to 15) (λ x. put_word to x (word_of v)) m ((not (literal_range v), OutOfBounds) ∷ []) tt (with_graph s (put_register s.graph to (literal_value v))) s d (λ k e. inner))
  where
    inner : Did ((not (literal_range v), OutOfBounds) ∷ []) tt (with_graph s (put_register s.graph to (literal_value v))) s (put_word to m (word_of v))
    inner = elim (cases_Bool (literal_range v)) [
      | inl e ↦ rw e (refl, depicts-put m s d to (literal_word v) (literal_value v) (literal-means d.shows.0 v e) (literal-set (objects_of s) v))
      | inr e ↦ rw e (refl, d)
    ]

-- the registers that a call names
pub both : (a b : ℕ) → (leb a 15 && leb b 15) ≡ true → (a < 16) × (b < 16)
both a b h = grind (arith, nat_tests)

pub turned_two : (a b : ℕ) → (ltb 15 a || ltb 15 b) ≡ not (leb a 15 && leb b 15)
turned_two a b = grind (arith, nat_tests)

-- what a register's word means
pub register-means : (m : Machine) (s : State) (d : Depicts m s) (r : ℕ) → r < 16 → Means d.shows.0 false (register_at m r) (register s r)
register-means m s d r l = shows-register 16 d.shows.0 m s.graph d.shows.1 r l (omega (arith, l, d.shows.1.lawful.registers_long))

-- the ways through a reading
read_out : (to k : ℕ) (m : Machine) (o : Opened) → leb o.cells k ≡ true → read_from to k m o ≡ (m, Err OutOfBounds)
read_out to k m o z = rw z refl

read-refused : (to k : ℕ) (m : Machine) (o : Opened) (e : Refusal) → leb o.cells k ≡ false → loaded m.table m.words o k ≡ Err e → read_from to k m o ≡ (m, Err e)
read-refused to k m o e z l = rw (z, l) refl

read-in : (to k : ℕ) (m : Machine) (o : Opened) (w : ℕ) → leb o.cells k ≡ false → loaded m.table m.words o k ≡ Ok w → read_from to k m o ≡ (with_register m to w, Ok tt)
read-in to k m o w z l = rw (z, l) refl

pub opened-fails : {B : Type 0} (m : Machine) (w : ℕ) (e : Refusal) (f : Opened → Machine × Result B Refusal) → opened m.table m.words w ≡ Err e → after m (opened m.table m.words w) f ≡ (m, Err e)
opened-fails m w e f h = rw h refl

pub opened-goes : {B : Type 0} (m : Machine) (w : ℕ) (o : Opened) (f : Opened → Machine × Result B Refusal) → opened m.table m.words w ≡ Ok o → after m (opened m.table m.words w) f ≡ f o
opened-goes m w o f h = rw h refl

module _ (control bindings to from k : ℕ) (m : Machine) (clean : (l x : ℕ) → dirty m.table l x ≡ false) (s : State) (d : Depicts m s) where
  abbrev rest : Value → List (Bool × Refusal)
  rest v = (not (is_object v), WrongKind) ∷ (leb (length (target s v).cells) k, OutOfBounds) ∷ (is_unset (class_of (objects_of s) (cell s v k)), Unset) ∷ []

  abbrev done : Value → State
  done v = with_graph s (put_register s.graph to (cell s v k))

  -- an object's cell
  read_cell : (i : ℕ) → Means d.shows.0 false (register_at m from) (ref i) → (o : Opened) → opened_with m.table (register_at m from) (object s.graph i).kind (length (object s.graph i).cells, (object s.graph i).access) ≡ o →
      o.cells ≡ length (object s.graph i).cells → Did ((leb (length (object s.graph i).cells) k, OutOfBounds) ∷ (is_unset (class_of (objects_of s) (cell s (ref i) k)), Unset) ∷ []) tt (done (ref i)) s (read_from to k m o)
  read_cell i h o e n =
      did-next m (leb (length (object s.graph i).cells) k) OutOfBounds ((is_unset (class_of (objects_of s) (cell s (ref i) k)), Unset) ∷ []) tt (done (ref i)) s (read_from to k m o) d
      (λ z. read_out to k m o (rw n z))
      (λ z. go (rw e at (loaded-there d.shows.0 m s.graph d.shows.1 clean (register_at m from) i h k (leb-false (length (object s.graph i).cells) k z))) (rw n z))
    where
      go : Loads d.shows.0 s.graph (cell s (ref i) k) (loaded m.table m.words o k) → leb o.cells k ≡ false →
          Did {A = Unit {0}} ((is_unset (class_of (objects_of s) (cell s (ref i) k)), Unset) ∷ []) tt (done (ref i)) s (read_from to k m o)
      go (inl q) z =
          did-next m (is_unset (class_of (objects_of s) (cell s (ref i) k))) Unset [] tt (done (ref i)) s (read_from to k m o) d (λ y. read-refused to k m o Unset z q.1) (λ y. absurd (true≢false (sym q.0 ∙ y)))
      go (inr q) z =
          did-next m (is_unset (class_of (objects_of s) (cell s (ref i) k))) Unset [] tt (done (ref i)) s (read_from to k m o) d (λ y. absurd (true≢false (sym y ∙ q.0)))
          (λ y. did-done (with_register m to q.1.0) tt (done (ref i)) s (read_from to k m o) (read-in to k m o q.1.0 z q.1.1) (depicts-put m s d to q.1.0 (cell s (ref i) k) q.1.2 q.0))

  read-value : (v : Value) → Means d.shows.0 false (register_at m from) v → (x : Machine × Result (Unit {0}) Refusal) → x ≡ after m (opened m.table m.words (register_at m from)) (λ o. read_from to k m o) → Did (rest v) tt (done v) s x
  read-value (plain y) h x e =
      let z = e ∙ opened-fails m (register_at m from) WrongKind (λ o. read_from to k m o) (opened-none d.shows.0 m s.graph d.shows.1 (register_at m from) y h) in rw z (refl, d)
  read-value (ref i) h x e =
      let z = e ∙ opened-goes m (register_at m from) (opened_with m.table (register_at m from) (object s.graph i).kind (length (object s.graph i).cells, (object s.graph i).access)) (λ o. read_from to k m o)
      (opened-there d.shows.0 m s.graph d.shows.1 (register_at m from) i h) in
      rw z (read_cell i h (opened_with m.table (register_at m from) (object s.graph i).kind (length (object s.graph i).cells, (object s.graph i).access)) refl refl)

  pub read-did : Did ((ltb 15 to || ltb 15 from, Unknown) ∷ (short m control bindings, Short) ∷ rest (register s from)) tt (done (register s from)) s (read_done control bindings to from k m)
  unfolding read_done
  read-did =
      rw (turned_two to from) (admission-did control bindings (leb to 15 && leb from 15) (λ x. after x (opened x.table x.words (register_at x from)) (λ o. read_from to k x o)) m
      (rest (register s from)) tt (done (register s from)) s d (λ a e. read-value (register s from) (register-means m s d from (both to from a).1) _ refl))

pub read-answers : (control bindings to from k : ℕ) (m : Machine) → ((l x : ℕ) → dirty m.table l x ≡ false) →
    Answers (read (short m control bindings) to from k) m (read_done control bindings to from k m).0 (read_done control bindings to from k m).1
read-answers control bindings to from k m clean s d = read-did control bindings to from k m clean s d
