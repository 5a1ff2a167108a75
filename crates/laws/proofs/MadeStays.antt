-- A making stays within the windows.
use Rattle.std.proofs.Common.{◌≡◌, ℕ, zero, suc, ◌+◌, ◌-◌, ◌<◌, ◌≤◌, Bool, true, false, cond, eqb, ltb, leb, List, length, get_or, Ok, Err, Result, refl, ap, inl, inr, arith}
use Rattle.std.proofs.lemmas.Bool.{cases_Bool, leb-true, ltb-false}
use Rattle.memory.proofs.Pasting.{length-pasted, pasted-outside}
use Rattle.answers.specs.declared.Refusal.{Refusal}
use Rattle.graph.specs.Graph.{Kind}
use Rattle.layout.specs.Machine.{Table, Machine, low, high, now_space}
use Rattle.layout.specs.Ordered.{Ordered}
use Rattle.layout.proofs.Windows.{window-below, now_space-below}
use Rattle.making.specs.Make.{target, claimed, made}
use Rattle.promises.specs.Promise.{Stays, Within}
use Rattle.laws.proofs.Made.{site, address, machine_after, made-full, made-there, made-short}

-- the windows stay where they are
claimed-starts : (κ : Kind) (s x n : ℕ) (t : Table) → (claimed κ s x n t).starts ≡ t.starts
unfolding claimed
claimed-starts κ s x n t = refl

-- windows that follow one another
pub starts-ordered : (ss ls hs : List ℕ) → Ordered ss ls hs → (a n : ℕ) → a + n ≤ 20 → get_or ss a 0 ≤ get_or ss (a + n) 0
starts-ordered ss ls hs o a zero l = let e : a + zero ≡ a = omega arith in rw e (omega arith)
starts-ordered ss ls hs o a (suc n) l =
    let r = starts-ordered ss ls hs o a n (omega arith) in
    let q = o (a + n) (omega arith) in
    let e : a + suc n ≡ suc (a + n) = omega arith in
    let z : get_or ss (a + suc n) 0 ≡ get_or ss (suc (a + n)) 0 = ap (λ k. get_or ss k 0) e in omega (arith, r, q.0, q.1, z)

pub start-last : (ss ls hs : List ℕ) → Ordered ss ls hs → (j : ℕ) → j < 20 → get_or ss (suc j) 0 ≤ get_or ss 20 0
start-last ss ls hs o j b = let e : suc j + (20 - suc j) ≡ 20 = omega arith in rw e at (starts-ordered ss ls hs o (suc j) (20 - suc j) (omega arith))

-- the words of a new object are between the words in use of its window
between : (b : Bool) (l h n : ℕ) → l ≤ h → n ≤ h - l → cond b (h - n) l + n ≤ h
between true l h n a c = omega arith
between false l h n a c = omega arith

pub site-between : (t : Table) (κ : Kind) (s n : ℕ) → low t (target t κ s) ≤ high t (target t κ s) → n ≤ high t (target t κ s) - low t (target t κ s) → site t κ s n + n ≤ high t (target t κ s)
site-between t κ s n a b = between (eqb s 0) (low t (target t κ s)) (high t (target t κ s)) n a b

pub made-stays : (κ : Kind) (s : ℕ) (xs : List ℕ) (to : ℕ) (m : Machine) → Ordered m.table.starts m.table.lows m.table.highs → m.table.now < 2 → s < 4 →
    Stays m (made κ s xs to m).0 (made κ s xs to m).1
made-stays κ s xs to m o now known =
    elim (cases_Bool (ltb (high m.table (target m.table κ s) - low m.table (target m.table κ s)) (length xs))) [
      | inl e ↦ whole (m, Err _) (made-full κ s xs to m e) refl
      | inr e ↦ elim (cases_Bool (leb (address m.table κ s (length xs) + length xs) (length m.words))) [
        | inl l ↦ whole (machine_after κ s xs to m, Ok 0) (made-there κ s xs to m e (leb-true _ _ l)) (within (ltb-false _ _ e))
        | inr l ↦ whole (m, Err _) (made-short κ s xs to m e l) refl
      ]
    ]
  where
    whole : (out : Machine × Result ℕ Refusal) → made κ s xs to m ≡ out → Stays m out.0 out.1 → Stays m (made κ s xs to m).0 (made κ s xs to m).1
    whole out e h = rw e h

    j : ℕ
    j = target m.table κ s

    below : target m.table κ s < 20
    below = window-below κ (now_space m.table.now s) (now_space-below m.table.now s now known)

    within : length xs ≤ high m.table (target m.table κ s) - low m.table (target m.table κ s) → Within m (machine_after κ s xs to m)
    within l =
        let q = o (target m.table κ s) below in
        let b = site-between m.table κ s (length xs) q.0 l in
        let z = start-last m.table.starts m.table.lows m.table.highs o (target m.table κ s) below in
        record {
          starts = claimed-starts κ s (site m.table κ s (length xs)) (length xs) m.table;
          long = length-pasted m.words (address m.table κ s (length xs)) xs;
          past = λ x h. pasted-outside m.words (address m.table κ s (length xs)) xs x (inr (omega (arith, q.1, b, z, h)));
        }
