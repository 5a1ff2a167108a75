-- A machine that makes an object shows the graph with the object.
use Rattle.std.proofs.Common.{◌≡◌, ℕ, ◌+◌, ◌-◌, ◌<◌, ◌≤◌, Bool, true, false, cond, ◌&&◌, eqb, ◌≢◌, ◌⊎◌, List, length, get_or, set, refl, ap, inl, inr, arith}
use Rattle.std.proofs.lemmas.Bool.Decides.{nat_tests}
use Rattle.std.proofs.lemmas.Bool.{cases_eq, eq-eqb, ne_eqb, and_from, and_left, and_right}
use Rattle.std.proofs.lemmas.List.{get_or-set_same, get_or-set_other}
use Rattle.graph.specs.Graph.{Kind}
use Rattle.graph.specs.Shape.{index}
use Rattle.layout.specs.Machine.{Table, Frame, windows, room, low, high, now_space}
use Rattle.layout.proofs.Windows.{window-below, window_same, now_space-below}
use Rattle.making.specs.Make.{target, claimed}
use Rattle.promises.specs.Promise.{room_in, used_in}
use Rattle.laws.proofs.Made.{site}

pub now_space-same : (now s e : ℕ) → now < 2 → s < 4 → s ≢ 1 → e < 4 → e ≢ 1 → now_space now e ≡ now_space now s → e ≡ s
now_space-same now s e n a b c d z = elim (cases_eq s 0) [
  | inl x ↦ elim (cases_eq e 0) [ inl y ↦ omega arith | inr y ↦ grind (arith, nat_tests) ]
  | inr x ↦ elim (cases_eq e 0) [ inl y ↦ grind (arith, nat_tests) | inr y ↦ grind (arith, nat_tests) ]
]

-- a window is that of the new object, or the object is of another kind or space
target-cases : (t : Table) (κ μ : Kind) (s e : ℕ) → t.now < 2 → s < 4 → s ≢ 1 → e < 4 → e ≢ 1 →
    ((target t μ e ≡ target t κ s) × ((eqb (index μ) (index κ) && eqb e s) ≡ true)) ⊎ ((target t μ e ≢ target t κ s) × ((eqb (index μ) (index κ) && eqb e s) ≡ false))
target-cases t κ μ s e n a b c d = elim (cases_eq (index μ) (index κ)) [
  | inl x ↦ elim (cases_eq e s) [
    | inl y ↦ inl (rw (x, y) refl, and_from (eqb (index μ) (index κ)) (eqb e s) (eq-eqb (index μ) (index κ) x) (eq-eqb e s y))
    | inr y ↦ inr (
      (λ z. y (now_space-same t.now s e n a b c d (window_same μ κ (now_space t.now e) (now_space t.now s) (now_space-below t.now e n c) (now_space-below t.now s n a) z).1)),
      and_right (eqb (index μ) (index κ)) (eqb e s) (ne_eqb e s y),
    )
  ]
  | inr x ↦ inr (
    (λ z. x (ap index (window_same μ κ (now_space t.now e) (now_space t.now s) (now_space-below t.now e n c) (now_space-below t.now s n a) z).0)),
    and_left (eqb (index μ) (index κ)) (eqb e s) (ne_eqb (index μ) (index κ) x),
  )
]

-- the cursors of window j after n words more at its high end, or at its low end
module _ (ls hs : List ℕ) (j n : ℕ) where
  abbrev place : Bool → ℕ
  place b = cond b (get_or hs j 0 - n) (get_or ls j 0)

  cursors-same : (b : Bool) (r : ℕ) → j < length ls → j < length hs → get_or ls j 0 + n ≤ get_or hs j 0 → get_or hs j 0 ≤ r →
      get_or (cond b ls (set ls j (place b + n))) j 0 + (r - get_or (cond b (set hs j (place b)) hs) j 0) ≡ get_or ls j 0 + (r - get_or hs j 0) + n
  cursors-same true r a c fits w = rw (get_or-set_same hs j (get_or hs j 0 - n) 0 c) (omega arith)
  cursors-same false r a c fits w = rw (get_or-set_same ls j (get_or ls j 0 + n) 0 a) (omega arith)

  cursors-other : (b : Bool) (r l : ℕ) → l ≢ j → get_or (cond b ls (set ls j (place b + n))) l 0 + (r - get_or (cond b (set hs j (place b)) hs) l 0) ≡ get_or ls l 0 + (r - get_or hs l 0) + 0
  cursors-other true r l d = rw (get_or-set_other hs j l (get_or hs j 0 - n) 0 d) (omega arith)
  cursors-other false r l d = rw (get_or-set_other ls j l (get_or ls j 0 + n) 0 d) (omega arith)

-- the words in use are more by the new object's
pub used-claimed : (t : Table) → Frame t → (κ μ : Kind) (s e n : ℕ) → s < 4 → s ≢ 1 → e < 4 → e ≢ 1 → low t (target t κ s) + n ≤ high t (target t κ s) →
    used_in (claimed κ s (site t κ s n) n t) μ e ≡ used_in t μ e + cond (eqb (index μ) (index κ) && eqb e s) n 0
unfolding claimed
used-claimed t f κ μ s e n a b c d fits = elim (target-cases t κ μ s e f.which a b c d) [
  | inl z ↦ rw z.1 (here (target t μ e) z.0)
  | inr z ↦ rw z.1 (cursors-other t.lows t.highs (target t κ s) n (eqb s 0) (room t (target t μ e)) (target t μ e) z.0)
]
  where
    j : target t κ s < windows
    j = window-below κ (now_space t.now s) (now_space-below t.now s f.which a)

    here : (l : ℕ) → l ≡ target t κ s → low (claimed κ s (site t κ s n) n t) l + (room t l - high (claimed κ s (site t κ s n) n t) l) ≡ low t l + (room t l - high t l) + n
    here l q = rw q (cursors-same t.lows t.highs (target t κ s) n (eqb s 0) (room t (target t κ s)) (omega (arith, j, f.lows_long)) (omega (arith, j, f.highs_long)) fits (f.within (target t κ s) j))

pub room-claimed : (t : Table) (κ μ : Kind) (s e x n : ℕ) → room_in (claimed κ s x n t) μ e ≡ room_in t μ e
unfolding claimed
room-claimed t κ μ s e x n = refl
