-- The law of every making: an object whose words fit is made, or there is no room for it.
use Rattle.std.proofs.Common.{◌≡◌, ℕ, suc, ◌+◌, ◌-◌, ◌%◌, ◌<◌, ◌≤◌, Bool, true, false, cond, eqb, ltb, ◌≢◌, List, [], ◌∷◌, length, get_or, set, Ok, Err, Result, sym, refl, ◌∙◌, subst, inl, inr, arith}
use Rattle.std.proofs.lemmas.Bool.Decides.{nat_tests}
use Rattle.std.proofs.lemmas.Bool.{cases_Bool, eqb-true, eqb-false, eq-eqb, ltb-false}
use Rattle.words.specs.Words.{pointer_word}
use Rattle.memory.specs.Pasted.{pasted}
use Rattle.answers.specs.declared.Refusal.{Refusal}
use Rattle.answers.specs.declared.Refusal.TheVariants.{NoRoom}
use Rattle.graph.specs.Graph.{trap, plain, ref, Object, Graph, add_object}
use Rattle.graph.specs.Shape.{code, boxed, size, want, Shaped}
use Rattle.graph.specs.Lawful.{class_of, Known, holds, Lawful}
use Rattle.graph.specs.Calls.{State, any_dynamic, leaks, full, added}
use Rattle.graph.proofs.Lawful.{lawful-added}
use Rattle.layout.specs.Machine.{Table, Machine, windows, window, start, room, low, high, now_space, with_cursors, with_heap, Wrote}
use Rattle.layout.specs.Places.{Places, Fits}
use Rattle.layout.specs.Shows.{Shown, Shows, Steady, registers_of}
use Rattle.layout.proofs.Meaning.{shows-put}
use Rattle.layout.proofs.Making.{Makes, shows-make-dynamic, shows-make-steady}
use Rattle.layout.proofs.Windows.{window-below, now_space-below, starts-order}
use Rattle.making.specs.Make.{target, claimed, made}
use Rattle.promises.specs.Promise.{Depicts}
use Rattle.laws.proofs.Admission.{Did}
use Rattle.laws.proofs.Testing.{none-dynamic, steady-value}
use Rattle.laws.proofs.Made.{site, address, machine_after, made-full, made-there, pasted-wrote, small-fields}
use Rattle.laws.proofs.MadeStays.{site-between}
use Rattle.laws.proofs.MadeShows.{used-claimed, room-claimed}

-- the room of a window by its cursors, and by the words in use
pub full-cursors : (l h r n : ℕ) → l ≤ h → h ≤ r → ltb r (l + (r - h) + n) ≡ ltb (h - l) n
full-cursors l h r n a b = grind (arith, nat_tests)

-- the place of n words at the high or at the low end of window j, and the cursors past them
abbrev place_by : Bool → Table → ℕ → ℕ → ℕ
place_by b t j n = cond b (high t j - n) (low t j)

abbrev table_by : Bool → Table → ℕ → ℕ → Table
table_by b t j n = with_cursors t (cond b t.lows (set t.lows j (place_by b t j n + n))) (cond b (set t.highs j (place_by b t j n)) t.highs) t.tos

module _ (p : Places) (m : Machine) (g : Graph) (h : Shown registers_of p m g) (o : Object) (sh : Shaped o) (unfrozen : o.frozen ≡ false) (law : Lawful (add_object g o))
    (known : (o.space < 4) × (o.space ≢ 1)) (closed : o.space ≡ 3 → (k : ℕ) → Steady p (get_or o.cells k (plain trap)))
    (xs : List ℕ) (fit : (k : ℕ) → k < size o → Fits p false (get_or xs k 0) (want o k)) where
  make-by : (now n j : ℕ) (b : Bool) → p.now ≡ now → n ≡ size o → window o.kind (now_space now o.space) ≡ j → eqb o.space 0 ≡ b →
      low m.table j + n ≤ high m.table j → Wrote m.words (pasted m.words (start m.table j + place_by b m.table j n) xs) (start m.table j + place_by b m.table j n) n (λ k. get_or xs k 0) →
      (p' : Places) × Makes registers_of (with_heap m (pasted m.words (start m.table j + place_by b m.table j n) xs) (table_by b m.table j n)) g o (pointer_word (code o.kind) (now_space now o.space) (place_by b m.table j n)) p'
  make-by now n j true a e w z =
      rw (← w, ← a, e) (shows-make-dynamic registers_of p m g h o sh unfrozen law known closed
      (pasted m.words (start m.table (window o.kind (now_space p.now o.space)) + (high m.table (window o.kind (now_space p.now o.space)) - size o)) xs)
      (λ k. get_or xs k 0) fit (eqb-true o.space 0 z))
  make-by now n j false a e w z =
      rw (← w, ← a, e) (shows-make-steady registers_of p m g h o sh unfrozen law known closed
      (pasted m.words (start m.table (window o.kind (now_space p.now o.space)) + low m.table (window o.kind (now_space p.now o.space))) xs)
      (λ k. get_or xs k 0) fit above)
    where
      above : 1 < o.space
      above = let d = eqb-false o.space 0 z in let c = known.1 in omega (arith, c, d)

module _ (m : Machine) (s : State) (d : Depicts m s) (o : Object) (sh : Shaped o) (unfrozen : o.frozen ≡ false) (same : o.space ≡ s.graph.space)
    (known : (k : ℕ) → Known s.graph.objects (get_or o.cells k (plain trap)))
    (typed : boxed o.kind ≡ true → (k : ℕ) → k < length o.cells → holds o.kind k (class_of s.graph.objects (get_or o.cells k (plain trap))) ≡ true)
    (xs : List ℕ) (len : length xs ≡ size o) (fit : (k : ℕ) → k < size o → Fits d.shows.0 false (get_or xs k 0) (want o k)) (to : ℕ) where
  abbrev p : Places
  p = d.shows.0

  abbrev h : Shown registers_of d.shows.0 m s.graph
  h = d.shows.1

  abbrev t : Table
  t = m.table

  abbrev j : ℕ
  j = target m.table o.kind o.space

  space-fine : (o.space < 4) × (o.space ≢ 1)
  space-fine = rw same h.lawful.space_known

  below : target m.table o.kind o.space < windows
  below = window-below o.kind (now_space t.now o.space) (now_space-below t.now o.space h.frame.which space-fine.0)

  -- the graph's test is the machine's
  full_is : full s o ≡ ltb (high m.table (target m.table o.kind o.space) - low m.table (target m.table o.kind o.space)) (length xs)
  full_is =
      rw (d.room_is o.kind o.space space-fine.0 space-fine.1, d.used_is o.kind o.space space-fine.0 space-fine.1, len)
      (full-cursors (low t j) (high t j) (room t j) (size o) (h.frame.apart j below) (h.frame.within j below))

  module _ (fits : low m.table (target m.table o.kind o.space) + length xs ≤ high m.table (target m.table o.kind o.space)) where
    -- the memory has the place
    in_words : address m.table o.kind o.space (length xs) + length xs ≤ length m.words
    in_words =
        let a = site-between t o.kind o.space (length xs) (h.frame.apart j below) (omega (arith, fits)) in
        let b = h.frame.within j below in
        let c = starts-order t h.frame (suc j) windows (omega (arith, below)) (omega arith) in
        let e = h.frame.rising j below in
        omega (arith, a, b, c, e, h.memory.long)

    site-small : site m.table o.kind o.space (length xs) < 16777216
    site-small =
        let a = site-between t o.kind o.space (length xs) (h.frame.apart j below) (omega (arith, fits)) in
        omega (arith, a, h.frame.within j below, h.frame.narrow j below)

    word-is : pointer_word (code o.kind % 16) (now_space m.table.now o.space % 4) (site m.table o.kind o.space (length xs) % 16777216) ≡
        pointer_word (code o.kind) (now_space m.table.now o.space) (site m.table o.kind o.space (length xs))
    word-is = small-fields o.kind (now_space t.now o.space) (site t o.kind o.space (length xs)) (now_space-below t.now o.space h.frame.which space-fine.0) site-small

    module _ (sealed : leaks s o ≡ false) where
      closed : o.space ≡ 3 → (k : ℕ) → Steady d.shows.0 (get_or o.cells k (plain trap))
      closed e k =
          let z : any_dynamic s.graph.objects o.cells ≡ false = (rw (eq-eqb o.space 3 e) at sealed) in
          steady-value p m s.graph h (get_or o.cells k (plain trap)) (known k) (none-dynamic s.graph.objects o.cells z k)

      made-shows : Shows (machine_after o.kind o.space xs to m) (added s o to).graph
      unfolding claimed
      made-shows =
          let z = make-by p m s.graph h o sh unfrozen (lawful-added s.graph h.lawful o known typed) space-fine closed xs fit
          t.now (length xs) j (eqb o.space 0) h.map.now_is len refl refl fits
          (pasted-wrote m.words (address t o.kind o.space (length xs)) (length xs) xs refl in_words) in
          rw word-is (
            z.0,
            shows-put registers_of z.0 (with_heap m (pasted m.words (address t o.kind o.space (length xs)) xs) (table_by (eqb o.space 0) t j (length xs)))
                (add_object s.graph o) z.1.0 to (pointer_word (code o.kind) (now_space t.now o.space) (site t o.kind o.space (length xs))) (ref (length s.graph.objects)) z.1.1 refl,
          )

      made-depicts : Depicts (machine_after o.kind o.space xs to m) (added s o to)
      made-depicts = record {
        shows = made-shows;
        used_is = λ μ e a b.
            rw (d.used_is μ e a b, ← len) (sym (used-claimed t h.frame o.kind μ o.space e (length xs) space-fine.0 space-fine.1 a b fits));
        room_is = λ μ e a b. d.room_is μ e a b ∙ sym (room-claimed t o.kind μ o.space e (site t o.kind o.space (length xs)) (length xs));
      }

  -- what is made is the object, in the space that the machine makes objects in
  pub made-did : leaks s o ≡ false → Did ((full s o, NoRoom) ∷ []) 0 (added s o to) s (made o.kind m.space xs to m)
  made-did sealed =
      subst (λ e. Did ((full s o, NoRoom) ∷ []) 0 (added s o to) s (made o.kind e xs to m)) (same ∙ sym h.space)
      (elim (cases_Bool (ltb (high t j - low t j) (length xs))) [
        | inl e ↦ whole (m, Err NoRoom) (made-full o.kind o.space xs to m e) (rw (full_is ∙ e) (refl, d))
        | inr e ↦ let f : low t j + length xs ≤ high t j = room e in
            whole (machine_after o.kind o.space xs to m, Ok 0) (made-there o.kind o.space xs to m e (in_words f)) (rw (full_is ∙ e) (refl, made-depicts f sealed))
      ])
    where
      whole : (out : Machine × Result ℕ Refusal) → made o.kind o.space xs to m ≡ out → Did ((full s o, NoRoom) ∷ []) 0 (added s o to) s out →
          Did ((full s o, NoRoom) ∷ []) 0 (added s o to) s (made o.kind o.space xs to m)
      whole out e q = subst (λ x. Did ((full s o, NoRoom) ∷ []) 0 (added s o to) s x) (sym e) q

      room : ltb (high m.table (target m.table o.kind o.space) - low m.table (target m.table o.kind o.space)) (length xs) ≡ false →
          low m.table (target m.table o.kind o.space) + length xs ≤ high m.table (target m.table o.kind o.space)
      room e = let a = ltb-false _ _ e in let b = h.frame.apart j below in omega (arith, a, b)
