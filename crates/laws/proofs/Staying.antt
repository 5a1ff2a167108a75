-- Calls stay within the windows, whatever the memory holds.
use Rattle.std.proofs.Common.{◌≡◌, ℕ, zero, suc, ◌+◌, ◌-◌, ◌%◌, ◌<◌, ◌≤◌, Bool, true, false, cond, not, ◌&&◌, ◌||◌, eqb, ltb, leb, List, length, get_or, set, is_some, Some, None, Ok, Err, Option, Result, sym, refl, ap, ◌∙◌, subst, inl, inr, arith}
use Rattle.std.proofs.lemmas.Bool.Decides.{nat_tests}
use Rattle.std.proofs.lemmas.List.{length-set, get_or-set_other}
use Rattle.std.proofs.lemmas.Bool.{cases_Bool, true≢false}
use Rattle.words.specs.Words.{type_of, space_of, pointer_of, access_of, count_of}
use Rattle.words.specs.Packing.{packed_count}
use Rattle.words.proofs.Packing.{packed-in}
use Rattle.words.specs.Literals.{word_of}
use Rattle.words.specs.declared.literals.Literal.{Literal}
use Rattle.kinds.specs.Kinds.{kind_of, boxed, heads, least, size_by, accessible}
use Rattle.answers.specs.declared.Refusal.{Refusal}
use Rattle.answers.specs.declared.Refusal.TheVariants.{OutOfBounds, Unfit, Frozen, DynamicInReadOnly, Foreign, Short}
use Rattle.answers.specs.declared.Place.TheVariants.{Memory}
use Rattle.answers.specs.declared.Told.{Told}
use Rattle.graph.specs.Graph.{Kind}
use Rattle.layout.specs.Machine.{Table, Machine, windows, window, start, room, low, high, register_at, with_register}
use Rattle.layout.specs.Ordered.{Ordered}
use Rattle.store.specs.Checks.{in_use, dynamic_word}
use Rattle.spaces.specs.Spaces.{space_at}
use Rattle.store.specs.Flow.{after}
use Rattle.objects.specs.declared.opened.Opened.{Opened}
use Rattle.objects.specs.Open.{next, or_else, fetched, headed, boxed_cells, packed_cells, measured, located, extent, opened_with, opened_as, opened}
use Rattle.cells.specs.Cells.{cell_place, entry_place, entered, fits_cell, frozen_cell, stored, saved, loaded}
use Rattle.access.specs.Access.{put_word, put_done, read_from, read_done, write_refused, written, write_done, told_word, tell_done, same_done, read_only_lows, with_frozen, freeze_done, with_space, space_done}
use Rattle.promises.specs.Promise.{Within, Stays}
use Rattle.laws.proofs.Admission.{admission-stays}

-- starts rise from window to window
module _ (t : Table) (o : Ordered t.starts t.lows t.highs) where
  starts-rise : (n j : ℕ) → j + n ≤ windows → start t j ≤ start t (j + n)
  starts-rise zero j l = let e : j + zero ≡ j = omega arith in rw e (omega arith)
  starts-rise (suc n) j l =
      let r = starts-rise n j (omega arith) in
      let q = o (j + n) (omega arith) in
      let e : j + suc n ≡ suc (j + n) = omega arith in
      let z : start t (j + suc n) ≡ start t (suc (j + n)) = ap (start t) e in omega (arith, r, q.0, q.1, z)

  -- words in use are below the end of the last window
  pub in-use-inside : (j x n : ℕ) → in_use t j x n ≡ true → start t j + x + n ≤ start t windows
  unfolding in_use
  in-use-inside j x n h =
      let b = numbers j x n (room t j) (low t j) (high t j) h in
      let e : suc j + (windows - suc j) ≡ windows = omega (arith, b.0) in
      let r = starts-rise (windows - suc j) (suc j) (omega (arith, b.0)) in
      let z : start t (suc j + (windows - suc j)) ≡ start t windows = ap (start t) e in
      let q = o j b.0 in omega (arith, r, z, b.1, q.0, q.1)
    where
      numbers : (j x n r lo hi : ℕ) → (ltb j 20 && (leb (x + n) r && (leb (x + n) lo || leb hi x))) ≡ true → (j < 20) × (x + n ≤ r)
      numbers j x n r lo hi h = grind (arith, nat_tests)

-- what an opened object is
pub record Measures (t : Table) (o : Opened) (n : ℕ) : Type 0 where
  pub there : in_use t (window o.kind o.space) o.offset n ≡ true
  pub base-is : o.base ≡ start t (window o.kind o.space) + o.offset
  pub boxed-size : boxed o.kind ≡ true → n ≡ heads o.kind + o.cells
  pub packed-size : boxed o.kind ≡ false → n ≡ heads o.kind + packed_count (o.access % 5) o.cells

extent-tells : (t : Table) (ws : List ℕ) (κ : Kind) (w n : ℕ) → extent t ws κ w ≡ Ok n → in_use t (window κ (space_of w)) (pointer_of w) n ≡ true
unfolding extent
extent-tells t ws κ w n h = go (in_use t (window κ (space_of w)) (pointer_of w) (least κ)) (fetched ws (located t κ w)) h
  where
    inner : (first : ℕ) (e : Refusal) → cond (headed κ first && in_use t (window κ (space_of w)) (pointer_of w) (size_by κ first)) (Ok (size_by κ first)) (Err e) ≡ Ok n → in_use t (window κ (space_of w)) (pointer_of w) n ≡ true
    inner first e z = parts (headed κ first) (in_use t (window κ (space_of w)) (pointer_of w) (size_by κ first)) refl z
      where
        parts : (a b : Bool) → in_use t (window κ (space_of w)) (pointer_of w) (size_by κ first) ≡ b → cond (a && b) (Ok (size_by κ first)) (Err e) ≡ Ok n → in_use t (window κ (space_of w)) (pointer_of w) n ≡ true
        parts true true u y = let q : size_by κ first ≡ n = cc in rw (← q) u
        parts true false u y = let q : ◌≡◌ {A = ℕ} 0 1 = cc in absurd (omega arith)
        parts false b u y = let q : ◌≡◌ {A = ℕ} 0 1 = cc in absurd (omega arith)

    go : (b : Bool) (f : Result ℕ Refusal) → cond b (next f (λ first. cond (headed κ first && in_use t (window κ (space_of w)) (pointer_of w) (size_by κ first)) (Ok (size_by κ first)) (Err (Foreign (Memory (located t κ w))))))
        (Err (Foreign (Memory (located t κ w)))) ≡ Ok n → in_use t (window κ (space_of w)) (pointer_of w) n ≡ true
    go true (Ok first) z = inner first (Foreign (Memory (located t κ w))) z
    go true (Err e) z = let q : ◌≡◌ {A = ℕ} 0 1 = cc in absurd (omega arith)
    go false f z = let q : ◌≡◌ {A = ℕ} 0 1 = cc in absurd (omega arith)

boxed-tells : (κ : Kind) (n c : ℕ) → boxed_cells κ n ≡ Some c → n ≡ heads κ + c
boxed-tells κ n c h = go (ltb n (heads κ)) refl (ltb 65534 (n - heads κ)) h
  where
    below : (a b : ℕ) → ltb a b ≡ false → b ≤ a
    below a b z = grind (arith, nat_tests)

    go : (a : Bool) → ltb n (heads κ) ≡ a → (b : Bool) → cond (a || b) None (Some (n - heads κ)) ≡ Some c → n ≡ heads κ + c
    go true u b z = let q : ◌≡◌ {A = ℕ} 0 1 = cc in absurd (omega arith)
    go false u true z = let q : ◌≡◌ {A = ℕ} 0 1 = cc in absurd (omega arith)
    go false u false z = let q : n - heads κ ≡ c = cc in omega (arith, below n (heads κ) u, q)

packed-tells : (κ : Kind) (n w c : ℕ) → packed_cells κ n w ≡ Some c → (n ≡ heads κ + packed_count (access_of w % 5) (count_of w)) × (count_of w ≡ c)
packed-tells κ n w c h = go (not (accessible κ (access_of w))) (ltb 65534 (count_of w)) (eqb n (heads κ + packed_count (access_of w % 5) (count_of w))) refl h
  where
    equal : (a b : ℕ) → eqb a b ≡ true → a ≡ b
    equal a b z = grind (arith, nat_tests)

    go : (a b e : Bool) → eqb n (heads κ + packed_count (access_of w % 5) (count_of w)) ≡ e → cond (a || (b || not e)) None (Some (count_of w)) ≡ Some c → (n ≡ heads κ + packed_count (access_of w % 5) (count_of w)) × (count_of w ≡ c)
    go true b e u z = let q : ◌≡◌ {A = ℕ} 0 1 = cc in absurd (omega arith)
    go false true e u z = let q : ◌≡◌ {A = ℕ} 0 1 = cc in absurd (omega arith)
    go false false false u z = let q : ◌≡◌ {A = ℕ} 0 1 = cc in absurd (omega arith)
    go false false true u z = (equal n (heads κ + packed_count (access_of w % 5) (count_of w)) u, cc)

-- the size that cells and access type give
abbrev Sized : Kind → ℕ → ℕ × ℕ → Type 0
Sized κ n c = (boxed κ ≡ true → n ≡ heads κ + c.0) × (boxed κ ≡ false → n ≡ heads κ + packed_count (c.1 % 5) c.0)

measured-tells : (ws : List ℕ) (κ : Kind) (a n : ℕ) (c : ℕ × ℕ) → measured ws κ a n ≡ Ok c → Sized κ n c
unfolding measured
measured-tells ws κ a n c h = go (boxed κ) refl h
  where
    cells : (q : Option ℕ) (e : Refusal) → boxed κ ≡ true → boxed_cells κ n ≡ q → next (or_else q e) (λ y. Ok (y, 0)) ≡ Ok c → Sized κ n c
    cells (Some y) e b u z = let v : (y, 0) ≡ c = cc in let w : y ≡ c.0 = ap (λ r. r.0) v in ((λ k. boxed-tells κ n y u ∙ ap (λ r. heads κ + r) w), (λ k. absurd (true≢false (sym b ∙ k))))
    cells None e b u z = let v : ◌≡◌ {A = ℕ} 0 1 = cc in absurd (omega arith)

    packed : (x : ℕ) (q : Option ℕ) (e : Refusal) → boxed κ ≡ false → packed_cells κ n x ≡ q → next (or_else q e) (λ y. Ok (y, access_of x)) ≡ Ok c → Sized κ n c
    packed x (Some y) e b u z =
        let v : (y, access_of x) ≡ c = cc in
        let p = packed-tells κ n x y u in
        let w : count_of x ≡ c.0 = (p.1 ∙ ap (λ r. r.0) v) in
        let r : access_of x ≡ c.1 = ap (λ r. r.1) v in
        ((λ k. absurd (true≢false (sym k ∙ b))), (λ k. p.0 ∙ ap (λ r. heads κ + packed_count (r % 5) (count_of x)) r ∙ ap (λ r. heads κ + packed_count (c.1 % 5) r) w))
    packed x None e b u z = let v : ◌≡◌ {A = ℕ} 0 1 = cc in absurd (omega arith)

    second : (f : Result ℕ Refusal) → boxed κ ≡ false → next f (λ w. next (or_else (packed_cells κ n w) (Foreign (Memory (a + 1)))) (λ y. Ok (y, access_of w))) ≡ Ok c → Sized κ n c
    second (Ok x) b z = packed x (packed_cells κ n x) (Foreign (Memory (a + 1))) b refl z
    second (Err e) b z = let v : ◌≡◌ {A = ℕ} 0 1 = cc in absurd (omega arith)

    go : (b : Bool) → boxed κ ≡ b → cond b (next (or_else (boxed_cells κ n) (Foreign (Memory a))) (λ y. Ok (y, 0)))
        (next (fetched ws (a + 1)) (λ w. next (or_else (packed_cells κ n w) (Foreign (Memory (a + 1)))) (λ y. Ok (y, access_of w)))) ≡ Ok c → Sized κ n c
    go true b z = cells (boxed_cells κ n) (Foreign (Memory a)) b refl z
    go false b z = second (fetched ws (a + 1)) b z

located-is : (t : Table) (κ : Kind) (w : ℕ) → located t κ w ≡ start t (window κ (space_of w)) + pointer_of w
unfolding located
located-is t κ w = refl

pub opened-tells : (t : Table) (ws : List ℕ) (w : ℕ) (o : Opened) → opened t ws w ≡ Ok o → (n : ℕ) × Measures t o n
unfolding opened
opened-tells t ws w o h = kinded (kind_of (type_of w)) h
  where
    made : (κ : Kind) (n : ℕ) (c : ℕ × ℕ) → in_use t (window κ (space_of w)) (pointer_of w) n ≡ true → Sized κ n c → opened_with t w κ c ≡ o → (n : ℕ) × Measures t o n
    made κ n c u z e = let P : Opened → Type 0 = λ y. (n : ℕ) × Measures t y n in subst P e (n, record { there = u; base-is = located-is t κ w; boxed-size = z.0; packed-size = z.1 })

    sized : (κ : Kind) (n : ℕ) → in_use t (window κ (space_of w)) (pointer_of w) n ≡ true → (f : Result (ℕ × ℕ) Refusal) → measured ws κ (located t κ w) n ≡ f → next f (λ c. Ok (opened_with t w κ c)) ≡ Ok o → (n : ℕ) × Measures t o n
    sized κ n u (Ok c) e z = let v : opened_with t w κ c ≡ o = cc in made κ n c u (measured-tells ws κ (located t κ w) n c e) v
    sized κ n u (Err y) e z = let v : ◌≡◌ {A = ℕ} 0 1 = cc in absurd (omega arith)

    extended : (κ : Kind) (f : Result ℕ Refusal) → extent t ws κ w ≡ f → next f (λ n. next (measured ws κ (located t κ w) n) (λ c. Ok (opened_with t w κ c))) ≡ Ok o → (n : ℕ) × Measures t o n
    extended κ (Ok n) e z = sized κ n (extent-tells t ws κ w n e) (measured ws κ (located t κ w) n) refl z
    extended κ (Err y) e z = let v : ◌≡◌ {A = ℕ} 0 1 = cc in absurd (omega arith)

    kinded : (q : Option Kind) → opened_as t ws w q ≡ Ok o → (n : ℕ) × Measures t o n
    kinded (Some κ) z = extended κ (extent t ws κ w) refl z
    kinded None z = let v : ◌≡◌ {A = ℕ} 0 1 = cc in absurd (omega arith)

-- a write below the windows' end stays within them
stored-stays : (m : Machine) (a x : ℕ) → a < start m.table windows → Stays m (written m (stored m.words a x)).0 (written m (stored m.words a x)).1
stored-stays m a x l = go (ltb a (length m.words))
  where
    go : (b : Bool) → Stays m (written m (cond b (set m.words a x, Ok tt) (m.words, Err Short))).0 (written m (cond b (set m.words a x, Ok tt) (m.words, Err Short))).1
    go true = record { starts = refl; long = length-set m.words a x; past = λ y h. get_or-set_other m.words a y x 0 (λ e. omega (arith, e, h, l)) }
    go false = refl

saved-stays : (m : Machine) (o : Opened) (k w n : ℕ) → Ordered m.table.starts m.table.lows m.table.highs → Measures m.table o n → k < o.cells → Stays m (written m (saved o k w m.words)).0 (written m (saved o k w m.words)).1
unfolding saved
saved-stays m o k w n ord mz l =
    elim (cases_Bool (boxed o.kind)) [
      | inl b ↦ rw b (stored-stays m (cell_place o k) w (omega (arith, inside, mz.base-is, mz.boxed-size b, l)))
      | inr b ↦ rw b (stored-stays m (entry_place o k) (entered o k w (get_or m.words (entry_place o k) 0)) (let z = packed-in (o.access % 5) o.cells k (omega arith) l in omega (arith, inside, mz.base-is, mz.packed-size b, z)))
    ]
  where
    inside : start m.table (window o.kind o.space) + o.offset + n ≤ start m.table windows
    inside = in-use-inside m.table ord (window o.kind o.space) o.offset n mz.there

refused-tells : (t : Table) (o : Opened) (k w : ℕ) (u : Unit {0}) → write_refused t o k w ≡ Ok u → k < o.cells
unfolding write_refused
refused-tells t o k w u h = go (leb o.cells k) refl h
  where
    below : (a b : ℕ) → leb a b ≡ false → b < a
    below a b z = grind (arith, nat_tests)

    go : (b : Bool) → leb o.cells k ≡ b → cond b (Err OutOfBounds)
        (cond (fits_cell o k w) (cond (frozen_cell t o) (Err Frozen)
        (cond (eqb o.space 3 && dynamic_word w) (Err DynamicInReadOnly) (Ok tt))) (Err Unfit)) ≡ Ok u → k < o.cells
    go true e z = let v : ◌≡◌ {A = ℕ} 0 1 = cc in absurd (omega arith)
    go false e z = below o.cells k e

-- nothing is written
pub untouched : (m m' : Machine) → m'.words ≡ m.words → m'.table.starts ≡ m.table.starts → Within m m'
untouched m m' e t = record { starts = t; long = ap length e; past = λ x h. ap (λ ws. get_or ws x 0) e }

pub put-stays : (control bindings to : ℕ) (v : Literal) (m : Machine) → Stays m (put_done control bindings to v m).0 (put_done control bindings to v m).1
unfolding put_done
put-stays control bindings to v m = admission-stays control bindings (leb to 15) (λ x. put_word to x (word_of v)) m (λ k e. go (word_of v))
  where
    go : (w : Option ℕ) → Stays m (put_word to m w).0 (put_word to m w).1
    go (Some w) = untouched m (with_register m to w) refl refl
    go None = refl

pub read_stays : (control bindings to from k : ℕ) (m : Machine) → Stays m (read_done control bindings to from k m).0 (read_done control bindings to from k m).1
unfolding read_done
read_stays control bindings to from k m =
    admission-stays control bindings (leb to 15 && leb from 15) (λ x. after x (opened x.table x.words (register_at x from)) (λ o. read_from to k x o)) m (λ a e. outer (opened m.table m.words (register_at m from)))
  where
    inner : (f : Result ℕ Refusal) → Stays m (after m f (λ w. (with_register m to w, Ok (tt {0})))).0 (after m f (λ w. (with_register m to w, Ok (tt {0})))).1
    inner (Ok w) = untouched m (with_register m to w) refl refl
    inner (Err e) = refl

    middle : (o : Opened) (b : Bool) → Stays m (cond b (m, Err OutOfBounds) (after m (loaded m.table m.words o k) (λ w. (with_register m to w, Ok (tt {0}))))).0
        (cond b (m, Err OutOfBounds) (after m (loaded m.table m.words o k) (λ w. (with_register m to w, Ok (tt {0}))))).1
    middle o true = refl
    middle o false = inner (loaded m.table m.words o k)

    outer : (f : Result Opened Refusal) → Stays m (after m f (λ o. read_from to k m o)).0 (after m f (λ o. read_from to k m o)).1
    outer (Ok o) = middle o (leb o.cells k)
    outer (Err e) = refl

pub write-stays : (control bindings into k value : ℕ) (m : Machine) → Ordered m.table.starts m.table.lows m.table.highs → Stays m (write_done control bindings into k value m).0 (write_done control bindings into k value m).1
unfolding write_done
write-stays control bindings into k value m ord =
    admission-stays control bindings (leb into 15 && leb value 15) (λ x. after x (opened x.table x.words (register_at x into)) (λ o. after x (write_refused x.table o k (register_at x value)) (λ _. written x (saved o k (register_at x value) x.words)))) m
    (λ a e. outer (opened m.table m.words (register_at m into)) refl)
  where
    inner : (o : Opened) (n : ℕ) → Measures m.table o n → (f : Result (Unit {0}) Refusal) → write_refused m.table o k (register_at m value) ≡ f →
        Stays m (after m f (λ _. written m (saved o k (register_at m value) m.words))).0 (after m f (λ _. written m (saved o k (register_at m value) m.words))).1
    inner o n z (Ok u) h = saved-stays m o k (register_at m value) n ord z (refused-tells m.table o k (register_at m value) u h)
    inner o n z (Err e) h = refl

    outer : (f : Result Opened Refusal) → opened m.table m.words (register_at m into) ≡ f →
        Stays m (after m f (λ o. after m (write_refused m.table o k (register_at m value)) (λ _. written m (saved o k (register_at m value) m.words)))).0
        (after m f (λ o. after m (write_refused m.table o k (register_at m value)) (λ _. written m (saved o k (register_at m value) m.words)))).1
    outer (Ok o) h = let z = opened-tells m.table m.words (register_at m into) o h in inner o z.0 z.1 (write_refused m.table o k (register_at m value)) refl
    outer (Err e) h = refl

pub tell-stays : (control bindings of : ℕ) (m : Machine) → Stays m (tell_done control bindings of m).0 (tell_done control bindings of m).1
unfolding tell_done
tell-stays control bindings of m = admission-stays control bindings (leb of 15) (λ x. (x, told_word x.table x.words (register_at x of))) m (λ k e. go (told_word m.table m.words (register_at m of)))
  where
    go : (r : Result Told Refusal) → Stays m m r
    go (Ok a) = untouched m m refl refl
    go (Err e) = refl

pub same-stays : (control bindings left right : ℕ) (m : Machine) → Stays m (same_done control bindings left right m).0 (same_done control bindings left right m).1
unfolding same_done
same-stays control bindings left right m = admission-stays control bindings (leb left 15 && leb right 15) (λ x. (x, Ok (eqb (register_at x left) (register_at x right)))) m (λ k e. untouched m m refl refl)

pub freeze-stays : (control bindings : ℕ) (m : Machine) → Stays m (freeze_done control bindings m).0 (freeze_done control bindings m).1
unfolding freeze_done
freeze-stays control bindings m = admission-stays control bindings true (λ x. (with_frozen x (read_only_lows x.table), Ok tt)) m (λ k e. untouched m (with_frozen m (read_only_lows m.table)) refl refl)

pub space-stays : (control bindings n : ℕ) (m : Machine) → Stays m (space_done control bindings n m).0 (space_done control bindings n m).1
unfolding space_done
space-stays control bindings n m = admission-stays control bindings (is_some (space_at n)) (λ x. (with_space x n, Ok tt)) m (λ k e. untouched m (with_space m n) refl refl)
