-- A cursor that moves within its window keeps all in order.
use Rattle.std.proofs.Common.{◌≡◌, ℕ, ◌<◌, ◌≤◌, List, length, inl, inr, arith, Ok}
use Rattle.std.specs.List.{slice_index, slice_set}
use Rattle.std.proofs.lemmas.List.{get_or-set_same, get_or-set_other}
use Rattle.std.proofs.lemmas.Bool.{cases_eq}
use Rattle.kinds.specs.declared.kind.Kind.{Kind}
use Rattle.layout.specs.Machine.{Table, window, now_space}
use Rattle.layout.specs.Ordered.{Ordered}
use Rattle.layout.proofs.Windows.{window-below}
use Rattle.making.specs.Make.{room_for}
use Rattle.making.proofs.Room.{room-within}

-- The words in use at a window's high end may begin lower, but not below where those at its low end end.
ordered-lower : (starts lows highs : List ℕ) (j x : ℕ) → Ordered starts lows highs → j < 20 → j < length highs → slice_index lows j ≤ x → x ≤ slice_index highs j →
    Ordered starts lows (slice_set highs j x)
ordered-lower starts lows highs j x o n l a b k m = elim (cases_eq k j) [
  | inl e ↦ let p = o j n in rw (e, get_or-set_same highs j x 0 l) (a, omega (arith, p.1, b), p.2, p.3)
  | inr d ↦ rw (get_or-set_other highs j k x 0 d) (o k m)
]

pub claimed-ordered : (t : Table) (κ : Kind) (n x : ℕ) → Ordered t.starts t.lows t.highs → t.now < 2 → length t.highs ≡ 20 → room_for t κ 0 n ≡ Ok x →
    Ordered t.starts t.lows (slice_set t.highs (window κ (now_space t.now 0)) x)
claimed-ordered t κ n x o w l e =
    let b = window-below κ t.now (omega arith) in
    let i = room-within t κ 0 n x (o (window κ t.now) b).0 e in
    ordered-lower t.starts t.lows t.highs (window κ t.now) x o b (omega (arith, b, l)) i.0 (omega (arith, i.1))
