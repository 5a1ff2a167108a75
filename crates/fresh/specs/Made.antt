-- What the making of a store answers, and what it leaves in the memory.
use Rattle.std.specs.Prelude.{◌≡◌, ℕ, ◌<◌, cond, ◌&&◌, List, length, replicate, take, Ok, Err, sum, Result, nat_le, slice_index, slice_index_or}
use Rattle.memory.specs.Pasted.{pasted}
use Rattle.answers.specs.declared.Refusal.{Refusal}
use Rattle.answers.specs.declared.Refusal.TheVariants.{OutOfBounds, Short}
use Rattle.stacks.specs.Limits.{stacks_fit}
use Rattle.layout.specs.Machine.{Machine}
use Rattle.layout.specs.Fresh.{fresh_machine}
use Rattle.store.specs.declared.windows.Window.{Window}
use Rattle.store.specs.declared.state.Store.{Store}
use Rattle.store.specs.View.{view}
use Rattle.fresh.specs.declared.windows.Windows.{Windows}
use Rattle.fresh.specs.Windows.{lengths, windows_fit}

-- The first n windows have these words, one after another, and none is in use.
pub record LaidOut (ws : List Window) (rooms : List ℕ) (n : ℕ) : Type 0 where
  pub long : length ws ≡ 20
  pub start : (j : ℕ) (d : Window) → j < n → (slice_index_or ws j d).start ≡ sum (take j rooms)
  pub room : (j : ℕ) (d : Window) → j < n → (slice_index_or ws j d).room ≡ slice_index rooms j
  pub low : (j : ℕ) (d : Window) → j < n → (slice_index_or ws j d).low ≡ 0
  pub high : (j : ℕ) (d : Window) → j < n → (slice_index_or ws j d).high ≡ slice_index rooms j

-- The machine that a store is with this memory, where there is a store.
abbrev pub viewed : List ℕ → Result Store Refusal → Result Machine Refusal
viewed ws (Ok s) = Ok (view s 0 ws)
viewed ws (Err e) = Err e

-- The memory with its first n words cleared.
abbrev pub cleared : ℕ → List ℕ → List ℕ
cleared n ws = pasted ws 0 (replicate n 0)

-- A store is made in cleared words where no window is over its limit, and the memory has all windows and no stack is over its limit.
unfoldable pub store_made : List Windows → ℕ → ℕ → List ℕ → List ℕ × Result Machine Refusal
store_made windows control bindings ws =
    let n = sum (lengths windows) in
    cond (windows_fit windows)
    (cond (nat_le n (length ws) && stacks_fit control bindings) (cleared n ws, Ok (fresh_machine (lengths windows) (cleared n ws))) (ws, Err Short))
    (ws, Err OutOfBounds)
