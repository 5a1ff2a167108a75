-- A store and its memory as a machine.
use Rattle.std.specs.Prelude.{ℕ, List, [], map, replicate, slice_index}
use Rattle.layout.specs.Fresh.{starts_from}
use Rattle.layout.specs.Machine.{Table, Stacks, Machine}
use Rattle.store.specs.declared.windows.Window.{Window}
use Rattle.store.specs.declared.state.Store.{Store}

-- How many words each window has.
abbrev pub rooms_of : Store → List ℕ
rooms_of s = map (λ (w : Window). w.room) s.windows

-- Where each window begins.
abbrev pub begins_of : Store → List ℕ
begins_of s = map (λ (w : Window). w.start) s.windows

-- The windows of a store, with no word dirty.
abbrev pub table_of : Store → Table
table_of s = record { starts = starts_from (slice_index (begins_of s) 0) (rooms_of s); lows = map (λ (w : Window). w.low) s.windows; highs = map (λ (w : Window). w.high) s.windows; froms = replicate 20 0; tos = replicate 20 0; frozen = s.frozen; held = replicate 5 0; now = s.newspace }

-- The registers of a store, with stacks that are not in use.
abbrev pub stacks_of : Store → Stacks
stacks_of s = record { registers = s.registers; control = []; bindings = []; control_dirty = 0; bindings_dirty = 0 }

-- The machine that a store is, with this allocation space and these words of memory.
abbrev pub view : Store → ℕ → List ℕ → Machine
view s space ws = record { words = ws; table = table_of s; stacks = stacks_of s; edits = []; space = space; foreign = s.foreign }
