-- A part text, line by line: what its calls do to a machine, and to the graph.
use Rattle.std.specs.Prelude.{◌≡◌, ℕ, suc, ◌+◌, ◌-◌, ◌^◌, ◌<◌, min, Bool, false, not, ◌⊎◌, List, [], ◌∷◌, length, is_some, Some, Ok, Err, MatchBool, Result, nat_lt}
use Rattle.answers.specs.declared.Refusal.{Refusal}
use Rattle.answers.specs.declared.Refusal.TheVariants.{Unknown, Short, NoForm, Foreign, TooLong}
use Rattle.answers.specs.declared.Place.{Place}
use Rattle.spaces.specs.Spaces.{space_at}
use Rattle.store.specs.Checks.{admitted, long_enough}
use Rattle.promises.specs.Promise.{Depicts, short, Within, noted, noted_of}
use Rattle.lines.specs.Lines.{lines_of}
use Rattle.answers.specs.declared.TextFault.{TextFault}
use Rattle.graph.specs.Calls.{State, Call, outcome, with_graph, is_space, with_space as with_space_of, put, read, write, make_list, make_symbol, make_vector, make_string, make_words}
use Rattle.layout.specs.Machine.{Machine, dirty}
use Rattle.layout.specs.Ordered.{Ordered}
use Rattle.access.specs.Access.{put_done, read_done, write_done, with_space}
use Rattle.making.specs.Makings.{list_made, symbol_made, vector_made, string_made, words_made}
use Rattle.parttext.specs.declared.Line.{Line}
use Rattle.parttext.specs.declared.Line.TheVariants.{Put, Symbol, Vector, Words, Read, Write}
use Rattle.parttext.specs.declared.Line.TheVariants.{List as list, String as string}
use Rattle.parttext.specs.Grammar.{Spells}

-- A call that cleans no word, counted as a line of a text.
abbrev pub uncounted : Call (Unit {0}) → Call ℕ
uncounted c = record { refusals = c.refusals; answer = λ s. 0; after = c.after }

-- The call that a line spells.
abbrev pub line_call : Bool → Line → Call ℕ
line_call short (Put to value) = uncounted (put short to value)
line_call short (list to car cdr) = make_list short to car cdr
line_call short (Symbol to name) = make_symbol short to name
line_call short (Vector to count fill) = make_vector short to count fill
line_call short (string to count) = make_string short to count
line_call short (Words to count access) = make_words short to count access
line_call short (Read to from at) = uncounted (read short to from at)
line_call short (Write into at value) = uncounted (write short into at value)

-- A line's count and what the lines after it answer: the sum of the counts, or the first fault.
abbrev pub plus : ℕ → Result ℕ TextFault → Result ℕ TextFault
plus k (Ok n) = Ok (k + n)
plus k (Err e) = Err e

-- A refused line.
abbrev pub fault_at : {A : Type 0} → ℕ → Refusal → Result A TextFault
fault_at n e = Err (record { line = n; refusal = e })

-- A refusal with the line that it came from.
abbrev pub lined : {A : Type 0} → ℕ → Result A Refusal → Result A TextFault
lined n (Ok a) = Ok a
lined n (Err e) = fault_at n e

-- From the state s, with n as the number of its first line, the lines answer r and leave s': each line that spells a granted call does
-- what that call does; the first that spells none, or one that is refused, is the fault, and leaves the work of the lines before it.
pub data Opened : State → ℕ → List (List ℕ) → State → Result ℕ TextFault → Type 0 where
  ended : {s : State} {n : ℕ} → Opened s n [] s (Ok 0)
  granted : {s s' : State} {n : ℕ} {l : List ℕ} {ls : List (List ℕ)} {r : Result ℕ TextFault} → (c : Line) (k : ℕ) → Spells c l → outcome (line_call false c) s ≡ Ok k →
      Opened ((line_call false c).after s) (suc n) ls s' r → Opened s n (l ∷ ls) s' (plus k r)
  refused : {s : State} {n : ℕ} {l : List ℕ} {ls : List (List ℕ)} → (c : Line) (e : Refusal) → Spells c l → outcome (line_call false c) s ≡ Err e → Opened s n (l ∷ ls) s (fault_at n e)
  formless : {s : State} {n : ℕ} {l : List ℕ} {ls : List (List ℕ)} → ((c : Line) → Spells c l → ⊥) → Opened s n (l ∷ ls) s (fault_at n NoForm)

-- What a step without a count answers as a line.
abbrev pub nothing : Machine × Result (Unit {0}) Refusal → Machine × Result ℕ Refusal
nothing (m, Ok u) = (m, Ok 0)
nothing (m, Err e) = (m, Err e)

-- What the call of a line does to a machine that is handed stacks of these lengths.
unfoldable pub performed : ℕ → ℕ → Line → Machine → Machine × Result ℕ Refusal
performed control bindings (Put to value) m = nothing (put_done control bindings to value m)
performed control bindings (list to car cdr) m = list_made control bindings to car cdr m
performed control bindings (Symbol to name) m = symbol_made control bindings to name m
performed control bindings (Vector to count fill) m = vector_made control bindings to count fill m
performed control bindings (string to count) m = string_made control bindings to count m
performed control bindings (Words to count access) m = words_made control bindings to count access m
performed control bindings (Read to from at) m = nothing (read_done control bindings to from at m)
performed control bindings (Write into at value) m = nothing (write_done control bindings into at value m)

-- What a line does to a machine: what the call does that it spells, or nothing where it spells none.
abbrev pub LineRuns : ℕ → ℕ → List ℕ → Machine → Machine → Result ℕ Refusal → Type 0
LineRuns control bindings l m m' r = ((c : Line) × Spells c l × ((m', r) ≡ performed control bindings c m)) ⊎ (((c : Line) → Spells c l → ⊥) × (m' ≡ m) × (r ≡ Err NoForm))

-- What holds of a machine between calls, whatever the memory holds: nothing is dirty, the windows are in order, and the spaces are known.
pub record Settled (m : Machine) : Type 0 where
  pub clean : (l x : ℕ) → dirty m.table l x ≡ false
  pub ordered : Ordered m.table.starts m.table.lows m.table.highs
  pub which : m.table.now < 2
  pub spaced : m.space < 4

-- The sum of two counts, as far as it can be held.
abbrev pub summed : ℕ → ℕ → ℕ
summed t k = min (t + k) (2 ^ 64 - 1)

-- What lines do to a machine, one after another; n is the number of the first and t the sum of the counts before it.
pub data Runs (control bindings : ℕ) : Machine → ℕ → ℕ → List (List ℕ) → Machine → Result ℕ TextFault → Type 0 where
  ended : {m : Machine} {n t : ℕ} → Runs control bindings m n t [] m (Ok t)
  goes : {m m₁ m' : Machine} {n t : ℕ} {l : List ℕ} {ls : List (List ℕ)} {r : Result ℕ TextFault} → (k : ℕ) → LineRuns control bindings l m m₁ (Ok k) → Settled m₁ → Runs control bindings m₁ (suc n) (summed t k) ls m' r → Runs control bindings m n t (l ∷ ls) m' r
  stops : {m m₁ : Machine} {n t : ℕ} {l : List ℕ} {ls : List (List ℕ)} {e : Refusal} → LineRuns control bindings l m m₁ (Err e) → Runs control bindings m n t (l ∷ ls) m₁ (fault_at n e)

-- A text has at most this many bytes.
abbrev pub text_limit : ℕ
text_limit = 16384

-- A text opened in space n on the machine m leaves m' and answers r: it is refused before any line where m is not usable, the space is
-- unknown, the loan is short or the text too long; else its lines run in that space, and the former space is put back.
abbrev pub TextRunsAs : ℕ → ℕ → ℕ → List ℕ → Machine → Machine → Result ℕ TextFault → Result (Unit {0}) Refusal → Type 0
TextRunsAs control bindings n text m m' r (Err e) = (m' ≡ m) × (r ≡ fault_at 0 e)
TextRunsAs control bindings n text m m' r (Ok u) =
    MatchBool (nat_lt text_limit (length text)) ((m' ≡ m) × (r ≡ fault_at 0 TooLong))
    ((m₁ : Machine) × Runs control bindings (with_space m n) 1 0 (lines_of text) m₁ r × (m' ≡ with_space m₁ m.space))

-- What opening a text does to a machine.
abbrev pub TextRuns : ℕ → ℕ → ℕ → List ℕ → Machine → Machine → Result ℕ TextFault → Type 0
TextRuns control bindings n text m m' r =
    TextRunsAs control bindings n text m m' r (admitted m.foreign (is_some (space_at n)) (long_enough m.table (length m.words) control bindings))

-- A state whose new objects go to space n.
abbrev pub in_space : State → ℕ → State
in_space s n = with_graph s (with_space_of s.graph n)

-- Opening a text in space n, where the loan is short or not, on the state s: it answers r and leaves a machine m' that shows the state
-- after, with the allocation space as it was.
abbrev pub TextAnswers : Bool → ℕ → List ℕ → State → Machine → Result ℕ TextFault → Type 0
TextAnswers short n text s m' r =
    MatchBool (not (is_space n)) ((r ≡ fault_at 0 Unknown) × Depicts m' s)
    (MatchBool short ((r ≡ fault_at 0 Short) × Depicts m' s)
    (MatchBool (nat_lt text_limit (length text)) ((r ≡ fault_at 0 TooLong) × Depicts m' s)
    ((s' : State) × Opened (in_space s n) 1 (lines_of text) s' r × Depicts m' (in_space s' s.graph.space))))

-- What a fault leaves of a machine: a foreign word is remembered.
abbrev pub fault_noted : Result ℕ TextFault → Machine → Machine
fault_noted r m = noted_of (λ f. f.refusal) r m

-- What opening a text promises of the machine m that it found, the machine m' that it left and its answer r.
pub record TextPromised (control bindings n : ℕ) (text : List ℕ) (m m' : Machine) (r : Result ℕ TextFault) : Type 0 where
  pub does : (m₁ : Machine) × TextRuns control bindings n text m m₁ r × (m' ≡ fault_noted r m₁)
  pub answers : (s : State) → Depicts m s → TextAnswers (short m control bindings) n text s m' r
  pub within : Within m m'
  pub restored : m'.space ≡ m.space
  pub before : (e : Refusal) → r ≡ fault_at 0 e → m' ≡ noted e m
  pub sticks : (p : Place) → m.foreign ≡ Some p → r ≡ fault_at 0 (Foreign p)
