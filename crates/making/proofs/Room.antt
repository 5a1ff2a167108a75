-- Room that was found for a new object.
use Rattle.std.proofs.Common.{◌≡◌, ℕ, ◌+◌, ◌-◌, ◌<◌, ◌≤◌, List, get_or, replicate, Bool, true, false, cond, ltb, eqb, Ok, Err, Result, refl, arith}
use Rattle.std.proofs.lemmas.Bool.{ltb-false}
use Rattle.kinds.specs.declared.kind.Kind.{Kind}
use Rattle.answers.specs.declared.Refusal.{Refusal}
use Rattle.answers.specs.declared.Refusal.TheVariants.{NoRoom}
use Rattle.spaces.specs.declared.Space.{Space}
use Rattle.spaces.specs.declared.Space.TheVariants.{Dynamic, Static, ReadOnly}
use Rattle.store.specs.declared.state.Store.{Store}
use Rattle.spaces.specs.Spaces.{code_of}
use Rattle.store.specs.View.{table_of, begins_of, rooms_of}
use Rattle.layout.specs.Fresh.{starts_from}
use Rattle.layout.specs.Machine.{Table, low, high, now_space, with_cursors}
use Rattle.layout.proofs.Windows.{now_space-below, window-below}
use Rattle.making.specs.Make.{target, room_for}

-- It lies between the words in use at the low end and those at the high end.
found-within : (l h n x : ℕ) → l ≤ h → (first short : Bool) → ltb (h - l) n ≡ short →
    ◌≡◌ {A = Result ℕ Refusal} (cond short (Err NoRoom) (Ok (cond first (h - n) l))) (Ok x) → (l ≤ x) × (x + n ≤ h)
found-within l h n x o first true e f = let z : ◌≡◌ {A = ℕ} 0 1 = cc in absurd (omega arith)
found-within l h n x o true false e f = let i : h - n ≡ x = cc in let m = ltb-false (h - l) n e in (omega (arith, i, m), omega (arith, i, m))
found-within l h n x o false false e f = let i : l ≡ x = cc in let m = ltb-false (h - l) n e in (omega (arith, i), omega (arith, i, m))

pub room-within : (t : Table) (κ : Kind) (s n x : ℕ) → low t (target t κ s) ≤ high t (target t κ s) → room_for t κ s n ≡ Ok x → (low t (target t κ s) ≤ x) × (x + n ≤ high t (target t κ s))
unfolding room_for
room-within t κ s n x o e = found-within (low t (target t κ s)) (high t (target t κ s)) n x o (eqb s 0) _ refl e

-- The window of new objects is one of the twenty.
pub place-below : (s : Store) (κ : Kind) (space : Space) (j : ℕ) → j ≡ target (table_of s) κ (code_of space) → j < 20
place-below s κ space j e = rw e (window-below κ (now_space s.newspace (code_of space)) (now_space-below s.newspace (code_of space) s.which (code-below space)))
  where
    code-below : (x : Space) → code_of x < 4
    code-below Dynamic = omega arith
    code-below Static = omega arith
    code-below ReadOnly = omega arith

-- A table with other cursors.
pub claimed-table : (s : Store) (begins rooms lows highs : List ℕ) → begins ≡ begins_of s → rooms ≡ rooms_of s → (ls hs : List ℕ) → lows ≡ ls → highs ≡ hs →
    record { starts = starts_from (get_or begins 0 0) rooms; lows = lows; highs = highs; froms = replicate 20 0; tos = replicate 20 0; frozen = s.frozen; held = replicate 5 0; now = s.newspace } ≡ with_cursors (table_of s) ls hs (replicate 20 0)
claimed-table s begins rooms lows highs z a ls hs b c = rw (z, a, b, c) refl
