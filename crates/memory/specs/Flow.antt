-- Steps on a state that may be refused, one after another.
use Rattle.std.specs.Prelude.{◌≡◌, Ok, Err, Result}

-- One step, and then another on what it answered, unless it was refused.
abbrev pub then : {S A B E : Type 0} → S × Result A E → (A → S → S × Result B E) → S × Result B E
then (s, Ok a) f = f a s
then (s, Err e) f = (s, Err e)

-- A call that found the state s, left s' and answered r did the step f.
abbrev pub Did : {S A E : Type 0} → S → S → Result A E → (S → S × Result A E) → Type 0
Did s s' r f = (s', r) ≡ f s
