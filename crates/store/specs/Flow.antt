-- Steps over a machine, one after another.
use Rattle.std.specs.Prelude.{ℕ, Bool, length, Ok, Err, Result}
use Rattle.answers.specs.declared.Refusal.{Refusal}
use Rattle.layout.specs.Machine.{Machine}
use Rattle.store.specs.Checks.{admitted, long_enough}

-- A step that only looks, and then another on what it answered.
abbrev pub after : {A B : Type 0} → Machine → Result A Refusal → (A → Machine × Result B Refusal) → Machine × Result B Refusal
after m (Ok a) f = f a
after m (Err e) f = (m, Err e)

-- A call that names only what there is if `known`, on a machine that is handed stacks of these lengths.
abbrev pub admission : ℕ → ℕ → Bool → {B : Type 0} → (Machine → Machine × Result B Refusal) → Machine → Machine × Result B Refusal
admission control bindings known f m = after m (admitted m.foreign known (long_enough m.table (length m.words) control bindings)) (λ _. f m)
