use Rattle.std.proofs.Common.{◌≡◌, ℕ, ◌^◌, ◌<◌, get_or, take}
use Rattle.std.specs.Int.{IsInRange}
use Rattle.numerals.proofs.Decimals.{read_on}
use Rattle.numerals.proofs.number.Given as goal

abbrev pub invariant-loop-b : goal.invariant-loop-b
invariant-loop-b l =
    (l.n ≡ read_on 0 (take l.b-index l.text)) × (l.n < 10 ^ l.b-index)
    × ((k : ℕ) → k < l.b-index → IsInRange 48 57 (get_or l.text k 0))
