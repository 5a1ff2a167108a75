-- Opening a text keeps its promise.
use Rattle.std.proofs.Common.{◌≡◌, ℕ, ◌<◌, Bool, true, false, not, ltb, List, length, is_some, Some, None, Ok, Err, MatchBool, Option, Result, sym, refl, ap, ◌∙◌, subst, arith}
use Rattle.answers.specs.declared.Place.{Place}
use Rattle.answers.specs.declared.Refusal.{Refusal}
use Rattle.answers.specs.declared.Refusal.TheVariants.{Unknown, Short, Foreign, TooLong}
use Rattle.answers.specs.declared.TextFault.{TextFault}
use Rattle.answers.specs.Numbers.{place_of}
use Rattle.graph.specs.Calls.{State}
use Rattle.layout.specs.Machine.{Machine}
use Rattle.spaces.specs.Spaces.{space_at}
use Rattle.store.specs.Checks.{admitted, long_enough}
use Rattle.access.specs.Access.{with_space}
use Rattle.lines.specs.Lines.{lines_of}
use Rattle.promises.specs.Promise.{Depicts, Within, noted}
use Rattle.laws.proofs.Promised.{Plain, judged-plain, noted-plain}
use Rattle.laws.proofs.Freezing.{space_known, space-turned, shows-space}
use Rattle.parttext.specs.declared.Line.{Line}
use Rattle.parttext.specs.declared.Line.TheVariants.{Put, Symbol, Vector, Words, Read, Write}
use Rattle.parttext.specs.declared.Line.TheVariants.{List as list, String as string}
use Rattle.opening.specs.Opening.{line_call, plus, fault_at, Opened, Runs, Settled, text_limit, TextRunsAs, TextRuns, in_space, fault_noted, TextPromised}
use Rattle.opening.specs.Opening.Opened.{ended, granted, refused, formless}
use Rattle.opening.proofs.Texts.{runs-within, runs-depicts}

-- no line's refusal names a foreign word
line_plain : (c : Line) (s : State) → Plain ((line_call false c).refusals s)
line_plain (Put to value) s = (refl, (refl, (refl, tt)))
line_plain (list to car cdr) s = (refl, (refl, (refl, (refl, tt))))
line_plain (Symbol to name) s = (refl, (refl, (refl, (refl, (refl, tt)))))
line_plain (Vector to count fill) s = (refl, (refl, (refl, (refl, (refl, tt)))))
line_plain (string to count) s = (refl, (refl, (refl, (refl, (refl, tt)))))
line_plain (Words to count access) s = (refl, (refl, (refl, (refl, (refl, tt)))))
line_plain (Read to from at) s = (refl, (refl, (refl, (refl, (refl, tt)))))
line_plain (Write into at value) s = (refl, (refl, (refl, (refl, (refl, (refl, (refl, tt)))))))

-- The answer names no foreign word.
abbrev Unforeign : Result ℕ TextFault → Type 0
Unforeign (Ok k) = Unit {0}
Unforeign (Err f) = place_of f.refusal ≡ None

plus-unforeign : (k : ℕ) (r : Result ℕ TextFault) → Unforeign r → Unforeign (plus k r)
plus-unforeign k (Ok n) u = tt
plus-unforeign k (Err f) u = u

opened-unforeign : {s s' : State} {n : ℕ} {ls : List (List ℕ)} {r : Result ℕ TextFault} → Opened s n ls s' r → Unforeign r
opened-unforeign ended = tt
opened-unforeign (granted {s} {s'} {n} {l} {ls} {r} c k sp e rest) = plus-unforeign k r (opened-unforeign rest)
opened-unforeign (refused {s} c e sp h) = judged-plain ((line_call false c).refusals s) ((line_call false c).answer s) e (line_plain c s) (sym h)
opened-unforeign (formless none) = refl

fault-noted : (r : Result ℕ TextFault) (m : Machine) → Unforeign r → fault_noted r m ≡ m
fault-noted (Ok k) m u = refl
fault-noted (Err f) m u = noted-plain f.refusal m u

-- lines are numbered from the first on
runs-line : (control bindings : ℕ) {m m' : Machine} {n t : ℕ} {ls : List (List ℕ)} {r : Result ℕ TextFault} → Runs control bindings m n t ls m' r → 0 < n → (e : Refusal) → r ≡ fault_at 0 e → ⊥
runs-line control bindings Runs.ended l e h = let z : ◌≡◌ {A = ℕ} 0 1 = cc in omega arith
runs-line control bindings (Runs.goes k x st run) l e h = runs-line control bindings run (omega arith) e h
runs-line control bindings (Runs.stops {n = n} {e = x} y) below e h = let z : n ≡ 0 = lines h in omega arith
  where
    lines : fault_at {A = ℕ} n x ≡ fault_at 0 e → n ≡ 0
    lines q = let w : ◌≡◌ {A = TextFault} (record { line = n; refusal = x }) (record { line = 0; refusal = e }) = cc in ap (λ f. f.line) w

noted-within : (m m₁ : Machine) (r : Result ℕ TextFault) → Within m m₁ → Within m (fault_noted r m₁)
noted-within m m₁ (Ok k) w = w
noted-within m m₁ (Err f) w = record { starts = w.starts; long = w.long; past = w.past }

noted-space : (m₁ : Machine) (r : Result ℕ TextFault) → (fault_noted r m₁).space ≡ m₁.space
noted-space m₁ (Ok k) = refl
noted-space m₁ (Err f) = refl

noted-fault : (m m₁ : Machine) (r : Result ℕ TextFault) (e : Refusal) → m₁ ≡ m → r ≡ fault_at 0 e → fault_noted r m₁ ≡ noted e m
noted-fault m m₁ r e h q = rw (q, h) refl

module _ (control bindings n : ℕ) (text : List ℕ) (m m₁ : Machine) (r : Result ℕ TextFault) (st : Settled m) where
  -- the lines ran, and the former space was put back
  abbrev Ran : Type 0
  Ran = (m₂ : Machine) × Runs control bindings (with_space m n) 1 0 (lines_of text) m₂ r × (m₁ ≡ with_space m₂ m.space)

  abbrev en : Bool
  en = long_enough m.table (length m.words) control bindings

  settled-in : is_some (space_at n) ≡ true → Settled (with_space m n)
  settled-in k = record { clean = st.clean; ordered = st.ordered; which = st.which; spaced = (space_known n k).0 }

  ran-depicts : Ran → is_some (space_at n) ≡ true → en ≡ true → (s : State) → Depicts m s → (s' : State) × Opened (in_space s n) 1 (lines_of text) s' r × Depicts (fault_noted r m₁) (in_space s' s.graph.space)
  ran-depicts h k e s d =
      let d₀ : Depicts (with_space m n) (in_space s n) = record { shows = (d.shows.0, shows-space d.shows.0 m s.graph n d.shows.1 (space_known n k)); used_is = d.used_is; room_is = d.room_is } in
      let q = runs-depicts control bindings h.1 refl (settled-in k) e (in_space s n) d₀ in
      let d₁ = q.2 in
      let back : Depicts (with_space h.0 s.graph.space) (in_space q.0 s.graph.space) =
      record { shows = (d₁.shows.0, shows-space d₁.shows.0 h.0 q.0.graph s.graph.space d₁.shows.1 d.shows.1.lawful.space_known); used_is = d₁.used_is; room_is = d₁.room_is } in
      let P : Machine → Type 0 = λ x. Depicts x (in_space q.0 s.graph.space) in
      let same : with_space h.0 s.graph.space ≡ fault_noted r m₁ = (ap (with_space h.0) (sym d.shows.1.space) ∙ sym h.2 ∙ sym (fault-noted r m₁ (opened-unforeign q.1))) in
      (q.0, q.1, subst P same back)

  -- the machine is as it was, and so shows what it showed
  kept-depicts : (e : Refusal) → place_of e ≡ None → m₁ ≡ m → r ≡ fault_at 0 e → (s : State) → Depicts m s → (r ≡ fault_at 0 e) × Depicts (fault_noted r m₁) s
  kept-depicts e p h q s d =
      let P : Machine → Type 0 = λ x. Depicts x s in
      let same : m ≡ fault_noted r m₁ = (sym (noted-plain e m p) ∙ sym (noted-fault m m₁ r e h q)) in (q, subst P same d)

  answers_by : (known enough long : Bool) → is_some (space_at n) ≡ known → en ≡ enough →
      ((known ≡ true → enough ≡ true → MatchBool long ((m₁ ≡ m) × (r ≡ fault_at 0 TooLong)) Ran) × (known ≡ true → enough ≡ false → (m₁ ≡ m) × (r ≡ fault_at 0 Short)) × (known ≡ false → (m₁ ≡ m) × (r ≡ fault_at 0 Unknown))) →
      (s : State) → Depicts m s →
      MatchBool (not known) ((r ≡ fault_at 0 Unknown) × Depicts (fault_noted r m₁) s) (MatchBool (not enough) ((r ≡ fault_at 0 Short) × Depicts (fault_noted r m₁) s) (MatchBool long ((r ≡ fault_at 0 TooLong) × Depicts (fault_noted r m₁) s)
      ((s' : State) × Opened (in_space s n) 1 (lines_of text) s' r × Depicts (fault_noted r m₁) (in_space s' s.graph.space))))
  answers_by true true true k e h s d = let z = h.0 refl refl in kept-depicts TooLong refl z.0 z.1 s d
  answers_by true true false k e h s d = ran-depicts (h.0 refl refl) k e s d
  answers_by true false long k e h s d = let z = h.1 refl refl in kept-depicts Short refl z.0 z.1 s d
  answers_by false enough long k e h s d = let z = h.2 refl in kept-depicts Unknown refl z.0 z.1 s d

  -- the ways through an opening, where no foreign word was found
  ways : (known enough long : Bool) → TextRunsAs control bindings n text m m₁ r (admitted None known enough) → ltb text_limit (length text) ≡ long →
      (known ≡ true → enough ≡ true → MatchBool long ((m₁ ≡ m) × (r ≡ fault_at 0 TooLong)) Ran) × (known ≡ true → enough ≡ false → (m₁ ≡ m) × (r ≡ fault_at 0 Short)) × (known ≡ false → (m₁ ≡ m) × (r ≡ fault_at 0 Unknown))
  unfolding admitted
  ways true true long h q = ((λ a b. rw q at h), (λ a b. absurd (no b)), (λ a. absurd (no a)))
    where
      no : true ≡ false → ⊥
      no z = let y : ◌≡◌ {A = ℕ} 0 1 = cc in omega arith
  ways true false long h q = ((λ a b. absurd (no b)), (λ a b. h), (λ a. absurd (no (sym a))))
    where
      no : false ≡ true → ⊥
      no z = let y : ◌≡◌ {A = ℕ} 0 1 = cc in omega arith
  ways false enough long h q = ((λ a b. absurd (no a)), (λ a b. absurd (no a)), (λ a. h))
    where
      no : false ≡ true → ⊥
      no z = let y : ◌≡◌ {A = ℕ} 0 1 = cc in omega arith

  -- what holds of every opening
  abbrev Kept : Type 0
  Kept = Within m m₁ × (m₁.space ≡ m.space) × ((e : Refusal) → r ≡ fault_at 0 e → m₁ ≡ m)

  kept_same : m₁ ≡ m → Kept
  kept_same h = rw h (record { starts = refl; long = refl; past = λ x q. refl }, refl, λ e q. refl)

  kept-ran : is_some (space_at n) ≡ true → Ran → Kept
  kept-ran k h =
      let w = runs-within control bindings h.1 (settled-in k) in
      rw h.2 (record { starts = w.starts; long = w.long; past = w.past }, refl, λ e q. absurd (runs-line control bindings h.1 (omega arith) e q))

  kept_by : (o : Option Place) (known enough long : Bool) → is_some (space_at n) ≡ known → ltb text_limit (length text) ≡ long → TextRunsAs control bindings n text m m₁ r (admitted o known enough) → Kept
  unfolding admitted
  kept_by (Some p) known enough long k q h = kept_same h.0
  kept_by None true true true k q h = kept_same (rw q at h).0
  kept_by None true true false k q h = kept-ran k (rw q at h)
  kept_by None true false long k q h = kept_same h.0
  kept_by None false enough long k q h = kept_same h.0

  stuck-by : (o : Option Place) (known enough : Bool) (p : Place) → o ≡ Some p → TextRunsAs control bindings n text m m₁ r (admitted o known enough) → r ≡ fault_at 0 (Foreign p)
  unfolding admitted
  stuck-by (Some q) known enough p e h = let z : q ≡ p = cc in h.1 ∙ ap (λ y. fault_at 0 (Foreign y)) z
  stuck-by None known enough p e h = let z : ◌≡◌ {A = ℕ} 0 1 = cc in absurd (omega arith)

  none-by : (o : Option Place) → o ≡ None → TextRunsAs control bindings n text m m₁ r (admitted o (is_some (space_at n)) en) → TextRunsAs control bindings n text m m₁ r (admitted None (is_some (space_at n)) en)
  none-by None e h = h
  none-by (Some p) e h = let z : ◌≡◌ {A = ℕ} 0 1 = cc in absurd (omega arith)

  pub text-promised : TextRuns control bindings n text m m₁ r → (m' : Machine) → m' ≡ fault_noted r m₁ → TextPromised control bindings n text m m' r
  text-promised h m' e =
      let k = kept_by m.foreign (is_some (space_at n)) en (ltb text_limit (length text)) refl refl h in
      rw e (record {
        does = (m₁, h, refl);
        answers = λ s d. rw (space-turned n) (answers_by (is_some (space_at n)) en (ltb text_limit (length text)) refl refl (ways (is_some (space_at n)) en (ltb text_limit (length text)) (none-by m.foreign d.shows.1.sound h) refl) s d);
        within = noted-within m m₁ r k.0;
        restored = noted-space m₁ r ∙ k.1;
        before = λ x q. noted-fault m m₁ r x (k.2 x q) q;
        sticks = λ p q. stuck-by m.foreign (is_some (space_at n)) en p q h;
      })
