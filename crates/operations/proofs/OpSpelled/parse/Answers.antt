use Rattle.std.proofs.Common.{◌≡◌, ℕ, ◌<◌, Option, Some, None, MatchOption, length, rules, tests, arith}
use mathlib.Core.List as lists
use mathlib.Core.Logic.{◌≢◌}
use Rattle.std.specs.List.{AllWithin, HoldsAt}
use Rattle.std.specs.Option.{ok_or}
use Rattle.numerals.specs.declared.NoForm.{NoForm}
use Rattle.std.proofs.lemmas.Iterator.{first_from_find, YieldsList-from_slice}
use Rattle.std.proofs.lemmas.Iterator.Consumers.{YieldsList-from_copied}
use Rattle.numerals.specs.Numbers.{Parses}
use Rattle.operations.specs.Names.{name_of}
use Rattle.operations.specs.Laws.{ops}
use Rattle.operations.specs.declared.Op.{Op}
use Rattle.operations.specs.declared.Op.TheVariants.{Put}
use Rattle.operations.proofs.Ops.{every}
use Rattle.operations.proofs.OpSpelled.parse.Goals as goal

-- An operation is found in the table exactly if it has this name.
found : (s : lists.List ℕ) (o : Option Op) (e : NoForm) →
    MatchOption o (AllWithin (λ p. s ≢ name_of p) ops 0 (length ops))
    (λ x. (s ≡ name_of x) × (i : ℕ) × (i < length ops) × HoldsAt (λ p. p ≡ x) ops i × AllWithin (λ p. s ≢ name_of p) ops 0 i) →
    Parses name_of (λ _. Unit {0}) s (ok_or o e)
found s None e h = every (λ p. s ≡ name_of p → Unit {0} → ⊥) (λ k l n _. h k Put (omega arith) l n)
found s (Some p) e h = (h.0, tt)

pub returns : goal.returns
returns c =
    rw c.ok_or.ensures.value
    (found c.args.name.now c.find.result _
    (first_from_find _ _ c.find.result (λ o. c.args.name.now ≡ name_of o) (λ o. c.args.name.now ≢ name_of o) c.find.ensures.ran
    (YieldsList-from_copied (YieldsList-from_slice ops cc)) (λ o q k. search (rules, tests)) (λ o q k. search (rules, tests))))
