-- The ways through a making.
use Rattle.std.proofs.Common.{◌≡◌, ℕ, ◌+◌, Bool, true, false, cond, leb, List, length, Ok, Err, Result, ap, arith}
use Rattle.answers.specs.declared.Refusal.{Refusal}
use Rattle.answers.specs.declared.Refusal.TheVariants.{Short}
use Rattle.memory.specs.Pasted.{pasted}
use Rattle.making.specs.Make.{emplaced}

-- what is refused was not written
kept : (b : Bool) (ws ws' p : List ℕ) (e : Refusal) → ◌≡◌ {A = List ℕ × Result (Unit {0}) Refusal} (ws', Err e) (cond b (p, Ok tt) (ws, Err Short)) → ws' ≡ ws
kept true ws ws' p e h = let y : ◌≡◌ {A = Result (Unit {0}) Refusal} (Err e) (Ok tt) = ap (λ q. q.1) h in let z : ◌≡◌ {A = ℕ} 0 1 = cc in absurd (omega arith)
kept false ws ws' p e h = ap (λ q. q.0) h

pub emplaced-kept : (a : ℕ) (xs ws ws' : List ℕ) (e : Refusal) → (ws', Err e) ≡ emplaced a xs ws → ws' ≡ ws
unfolding emplaced
emplaced-kept a xs ws ws' e h = kept (leb (a + length xs) (length ws)) ws ws' (pasted ws a xs) e h
