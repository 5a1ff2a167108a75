-- What a part text gives as a sheet of registers.
use Rattle.std.specs.Prelude.{◌≡◌, ℕ, true, List, map, length, replicate, Ok, Err, MatchBool, Result, nat_lt}
use Rattle.answers.specs.declared.Told.{Told}
use Rattle.answers.specs.declared.TextFault.{TextFault}
use Rattle.answers.specs.declared.Refusal.TheVariants.{TooLong}
use Rattle.graph.specs.Calls.{State, told}
use Rattle.fresh.specs.declared.windows.Windows.{Windows}
use Rattle.fresh.specs.Windows.{empty_state}
use Rattle.layout.specs.Machine.{Machine}
use Rattle.loan.specs.declared.Loan.{Loan}
use Rattle.store.specs.Checks.{long_enough}
use Rattle.promises.specs.Promise.{Depicts}
use Rattle.lines.specs.Lines.{lines_of}
use Rattle.opening.specs.Opening.{text_limit, fault_at, in_space, Opened}
use Rattle.listing.specs.Listing.{listing, fault_text}

-- The machine shows the state, and stacks without an entry and this memory are enough for it.
abbrev pub Still : Machine → State → Type 0
Still m s = Depicts m s × (long_enough m.table (length m.words) 0 0 ≡ true)

-- A loan whose stacks have no room.
abbrev pub Unstacked : {M : Type 0} → Loan M → Type 0
Unstacked l = (length l.control.now ≡ 0) × (length l.bindings.now ≡ 0)

-- Dynamic windows of 512 words for each kind, and nothing else.
abbrev pub sheet_windows : List Windows
sheet_windows = replicate 5 (record { dynamic = 512; fixed = 0; read_only = 0 })

-- The heap that a sheet starts from: nothing made, new objects going to dynamic space.
abbrev pub sheet_state : State
sheet_state = in_space (empty_state sheet_windows) 0

-- What is told of every register.
abbrev pub all_told : State → List Told
all_told s = map (told s) s.graph.registers

-- What is told of the registers after an accepted text, or its fault.
abbrev pub shown_as : State → Result ℕ TextFault → Result (List Told) TextFault
shown_as s (Ok k) = Ok (all_told s)
shown_as s (Err f) = Err f

-- A text gives what its registers hold after all its lines, or the fault of the first line that is refused.
abbrev pub Gives : List ℕ → Result (List Told) TextFault → Type 0
Gives text r = MatchBool (nat_lt text_limit (length text)) (r ≡ fault_at 0 TooLong) ((s : State) × (q : Result ℕ TextFault) × Opened sheet_state 1 (lines_of text) s q × (r ≡ shown_as s q))

-- The bytes of a sheet.
abbrev pub sheet_text : Result (List Told) TextFault → List ℕ
sheet_text (Ok ts) = listing ts
sheet_text (Err f) = fault_text f

-- These bytes are the sheet of the text.
abbrev pub Sheet : List ℕ → List ℕ → Type 0
Sheet text out = (r : Result (List Told) TextFault) × Gives text r × (out ≡ sheet_text r)
