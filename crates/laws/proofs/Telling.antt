-- Telling and comparing answer as the graph does.
use Rattle.std.proofs.Common.{◌≡◌, ℕ, zero, suc, ◌/◌, ◌<◌, true, false, cond, ◌&&◌, eqb, ltb, leb, ◌≢◌, List, [], length, Some, None, Ok, sym, refl, ap, ◌∙◌, inl, inr, arith}
use Rattle.std.proofs.lemmas.Bool.Decides.{nat_tests}
use Rattle.std.proofs.lemmas.Bool.{cases_eq, cases_Bool, eq-eqb, ne_eqb, true≢false}
use Rattle.words.specs.Words.{type_of, space_of, signed, fixnum_word, character_word, null_word}
use Rattle.words.specs.Literals.{literal_of}
use Rattle.words.specs.declared.literals.Literal.TheVariants.{Fixnum, Character}
use Rattle.words.proofs.Coding.{signed_range, data-signed}
use Rattle.words.proofs.LiteralWords.{literal-of-word}
use Rattle.kinds.specs.Kinds.{is_unset, code}
use Rattle.answers.specs.declared.Told.{Told}
use Rattle.graph.specs.Graph.{fixnum, character, null, trap, Value, plain, ref, object}
use Rattle.graph.specs.Lawful.{class_of}
use Rattle.graph.specs.Calls.{State, register, objects_of, tell, told, same, sort, number, alike}
use Rattle.graph.proofs.Shape.{code-pointer}
use Rattle.layout.specs.Machine.{Table, Machine, register_at, now_space}
use Rattle.layout.specs.Places.{Places, Means}
use Rattle.layout.proofs.Meaning.{means-ref}
use Rattle.layout.proofs.Windows.{now-below}
use Rattle.layout.proofs.Reading.{leads}
use Rattle.layout.proofs.Same.{means-one, one_word}
use Rattle.objects.specs.declared.opened.Opened.{Opened}
use Rattle.objects.specs.Open.{opened, opened_with}
use Rattle.access.specs.Access.{told_opened, told_word, tell_done, same_done}
use Rattle.promises.specs.Promise.{Depicts, Answers, short}
use Rattle.laws.proofs.Admission.{Did, did-done, admission-did, turned-one}
use Rattle.laws.proofs.Opening.{opened-there}
use Rattle.laws.proofs.Access.{register-means, both, turned_two}

fixnum-told : (d : ℕ) → d < 268435456 → literal_of (fixnum_word d) ≡ Some (Fixnum (signed d))
fixnum-told d l = let e = literal-of-word (Fixnum (signed d)) (signed_range d l) in rw (data-signed d l) at e

-- a pointer is no literal
pointer-told : (w : ℕ) → 1 < type_of w → literal_of w ≡ None
pointer-told w l =
    let one : eqb (type_of w) 1 ≡ false = ne_eqb (type_of w) 1 (λ e. omega (arith, e, l)) in
    let chr : eqb (w / 256) 65536 ≡ false = ne_eqb (w / 256) 65536 (λ e. omega (arith, e, l)) in
    let nul : eqb w null_word ≡ false = ne_eqb w null_word (λ e. omega (arith, e, l)) in
    rw (one, chr, nul) refl

told-by : (t : Table) (ws : List ℕ) (w : ℕ) (o : Opened) → literal_of w ≡ None → opened t ws w ≡ Ok o → told_word t ws w ≡ Ok (told_opened o)
unfolding told_word
told-by t ws w o a b = rw (a, b) refl

told-fixnum : (t : Table) (ws : List ℕ) (d : ℕ) → d < 268435456 → told_word t ws (fixnum_word d) ≡ Ok (Rattle.answers.specs.declared.Told.TheVariants.Fixnum (signed d))
unfolding told_word
told-fixnum t ws d l = rw (fixnum-told d l) refl

told-character : (t : Table) (ws : List ℕ) (c : ℕ) → c < 256 → told_word t ws (character_word c) ≡ Ok (Rattle.answers.specs.declared.Told.TheVariants.Character c)
unfolding told_word
told-character t ws c l = let r : ltb c 256 ≡ true = grind (arith, nat_tests) in rw (literal-of-word (Character c) r) refl

told-null : (t : Table) (ws : List ℕ) → told_word t ws null_word ≡ Ok Rattle.answers.specs.declared.Told.TheVariants.Null
unfolding told_word
told-null t ws = refl

-- both dynamic spaces are told as 0
space-told : (now s : ℕ) → now < 2 → s ≢ 1 → cond (ltb (now_space now s) 2) 0 (now_space now s) ≡ s
space-told now s a b = elim (cases_eq s 0) [ inl e ↦ grind (arith, nat_tests) | inr d ↦ grind (arith, nat_tests) ]

told-value : (m : Machine) (s : State) (d : Depicts m s) (w : ℕ) (v : Value) → Means d.shows.0 false w v → is_unset (class_of (objects_of s) v) ≡ false → told_word m.table m.words w ≡ Ok (told s v)
told-value m s d w (plain (fixnum x)) h u = rw h.0 (told-fixnum m.table m.words x h.1)
told-value m s d w (plain (character c)) h u = rw h.0 (told-character m.table m.words c h.1)
told-value m s d w (plain null) h u = rw h.0 (told-null m.table m.words)
told-value m s d w (plain trap) h u = absurd (true≢false u)
told-value m s d w (ref i) h u =
    let p : Places = d.shows.0 in
    let q = d.shows.1 in
    let l = leads p m.table q.frame q.map w i h in
    let c = code-pointer (p.kind i) in
    let n = q.map.range i (means-ref p w i h).0 in
    let z = told-by m.table m.words w (opened_with m.table w (object s.graph i).kind (length (object s.graph i).cells, (object s.graph i).access)) (pointer-told w (omega (arith, c.0, l.type-is))) (opened-there p m s.graph q w i h) in
    let sp : cond (ltb (space_of w) 2) 0 (space_of w) ≡ (object s.graph i).space =
    rw l.space_is (space-told p.now (p.space i) (now-below p m.table q.frame q.map) (q.map.spaces i n).1 ∙ q.memory.space_is i n) in
    z ∙ ap (λ y. Ok (Rattle.answers.specs.declared.Told.TheVariants.Object (code (object s.graph i).kind) y (length (object s.graph i).cells))) sp

pub tell-answers : (control bindings of : ℕ) (m : Machine) → Answers (tell (short m control bindings) of) m (tell_done control bindings of m).0 (tell_done control bindings of m).1
unfolding tell_done
tell-answers control bindings of m s d =
    rw (turned-one of 15) (admission-did control bindings (leb of 15) (λ x. (x, told_word x.table x.words (register_at x of))) m [] (told s (register s of)) s s d (λ k e. inner (leb-known of k)))
  where
    leb-known : (a : ℕ) → leb a 15 ≡ true → a < 16
    leb-known a k = grind (arith, nat_tests)

    inner : of < 16 → Did [] (told s (register s of)) s s (m, told_word m.table m.words (register_at m of))
    inner l =
        did-done m (told s (register s of)) s s (m, told_word m.table m.words (register_at m of))
        (ap (λ y. (m, y)) (told-value m s d (register_at m of) (register s of) (register-means m s d of l) (d.shows.1.lawful.registers_set of l))) d

-- values that are alike are equal
value_at : ℕ → ℕ → Value
value_at zero n = plain (fixnum n)
value_at (suc zero) n = plain (character n)
value_at (suc (suc zero)) n = plain null
value_at (suc (suc (suc zero))) n = plain trap
value_at (suc (suc (suc (suc k)))) n = ref n

value-back : (v : Value) → value_at (sort v) (number v) ≡ v
unfolding value_at
value-back (plain (fixnum d)) = refl
value-back (plain (character c)) = refl
value-back (plain null) = refl
value-back (plain trap) = refl
value-back (ref i) = refl

alike-equal : (v w : Value) → alike v w ≡ true → v ≡ w
alike-equal v w h =
    let z = numbers (sort v) (sort w) (number v) (number w) h in
    sym (value-back v) ∙ ap (λ k. value_at k (number v)) z.0 ∙ ap (value_at (sort w)) z.1 ∙ value-back w
  where
    numbers : (a b c e : ℕ) → (eqb a b && eqb c e) ≡ true → (a ≡ b) × (c ≡ e)
    numbers a b c e h = grind (arith, nat_tests)

alike_same : (v : Value) → alike v v ≡ true
alike_same v = rw (eq-eqb (sort v) (sort v) refl, eq-eqb (number v) (number v) refl) refl

pub same-answers : (control bindings left right : ℕ) (m : Machine) → Answers (same (short m control bindings) left right) m (same_done control bindings left right m).0 (same_done control bindings left right m).1
unfolding same_done
same-answers control bindings left right m s d =
    rw (turned_two left right) (admission-did control bindings (leb left 15 && leb right 15) (λ x. (x, Ok (eqb (register_at x left) (register_at x right)))) m [] (alike (register s left) (register s right)) s s d
    (λ k e. let b = both left right k in inner b.0 b.1))
  where
    inner : left < 16 → right < 16 → Did [] (alike (register s left) (register s right)) s s (m, Ok (eqb (register_at m left) (register_at m right)))
    inner a b =
        let p : Places = d.shows.0 in
        let q = d.shows.1 in
        let u = register-means m s d left a in
        let v = register-means m s d right b in
        let z : eqb (register_at m left) (register_at m right) ≡ alike (register s left) (register s right) = elim (cases_eq (register_at m left) (register_at m right)) [
          | inl e ↦ (let w = means-one p m.table q.frame q.map (register_at m left) (register s left) (register s right) u (rw (← e) at v) in
              eq-eqb (register_at m left) (register_at m right) e ∙ sym (rw (← w) (alike_same (register s left))))
          | inr n ↦ (ne_eqb (register_at m left) (register_at m right) n ∙ sym (elim (cases_Bool (alike (register s left) (register s right))) [
            | inl y ↦ absurd (n (one_word p m.table q.frame q.map (register_at m left) (register_at m right) (register s left) u (rw (← alike-equal (register s left) (register s right) y) at v)))
            | inr y ↦ y
          ]))
        ] in
        did-done m (alike (register s left) (register s right)) s s (m, Ok (eqb (register_at m left) (register_at m right))) (ap (λ y. (m, Ok y)) z) d
