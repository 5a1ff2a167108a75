-- The calls that read and write registers and cells, over machines.
use Rattle.std.specs.Prelude.{ℕ, Bool, true, cond, ◌&&◌, List, [], ◌∷◌, is_some, Some, None, Ok, Err, Option, Result, ◌==◌, nat_le, nat_lt}
use Rattle.words.specs.Literals.{word_of, literal_of}
use Rattle.words.specs.declared.literals.Literal.{Literal}
use Rattle.words.specs.declared.literals.Literal.TheVariants.{Fixnum, Character, Null}
use Rattle.kinds.specs.Kinds.{code}
use Rattle.answers.specs.declared.Told.{Told}
use Rattle.answers.specs.declared.Told.TheVariants.{Fixnum as told_fixnum, Character as told_character, Null as told_null, Object as told_object}
use Rattle.answers.specs.declared.Refusal.{Refusal}
use Rattle.answers.specs.declared.Refusal.TheVariants.{OutOfBounds, Unfit, Frozen, DynamicInReadOnly}
use Rattle.layout.specs.Machine.{Table, Machine, low, register_at, with_register, with_words}
use Rattle.store.specs.Checks.{dynamic_word}
use Rattle.spaces.specs.Spaces.{space_at}
use Rattle.store.specs.Flow.{after, admission}
use Rattle.objects.specs.declared.opened.Opened.{Opened}
use Rattle.objects.specs.Open.{next, opened}
use Rattle.cells.specs.Cells.{loaded, fits_cell, frozen_cell, saved}

-- A register is set to a word, where there is one.
abbrev pub put_word : ℕ → Machine → Option ℕ → Machine × Result (Unit {0}) Refusal
put_word to m None = (m, Err OutOfBounds)
put_word to m (Some w) = (with_register m to w, Ok tt)

-- A literal is put into a register.
unfoldable pub put_done : ℕ → ℕ → ℕ → Literal → Machine → Machine × Result (Unit {0}) Refusal
put_done control bindings to v = admission control bindings (nat_le to 15) (λ m. put_word to m (word_of v))

-- Cell k of an opened object goes into a register.
abbrev pub read_from : ℕ → ℕ → Machine → Opened → Machine × Result (Unit {0}) Refusal
read_from to k m o = cond (nat_le o.cells k) (m, Err OutOfBounds) (after m (loaded m.table m.words o k) (λ w. (with_register m to w, Ok tt)))

-- A cell or entry of the object in a register is read into a register.
unfoldable pub read_done : ℕ → ℕ → ℕ → ℕ → ℕ → Machine → Machine × Result (Unit {0}) Refusal
read_done control bindings to from k =
    admission control bindings (nat_le to 15 && nat_le from 15) (λ m. after m (opened m.table m.words (register_at m from)) (λ o. read_from to k m o))

-- What refuses a word for cell k of an opened object.
unfoldable pub write_refused : Table → Opened → ℕ → ℕ → Result (Unit {0}) Refusal
write_refused t o k w =
    cond (nat_le o.cells k) (Err OutOfBounds)
    (cond (fits_cell o k w) (cond (frozen_cell t o) (Err Frozen) (cond (o.space == 3 && dynamic_word w) (Err DynamicInReadOnly) (Ok tt))) (Err Unfit))

-- The machine with the words that a step left.
abbrev pub written : Machine → List ℕ × Result (Unit {0}) Refusal → Machine × Result (Unit {0}) Refusal
written m (ws, r) = (with_words m ws, r)

-- What a register holds is written into a cell or entry of the object in a register.
unfoldable pub write_done : ℕ → ℕ → ℕ → ℕ → ℕ → Machine → Machine × Result (Unit {0}) Refusal
write_done control bindings into k value =
    admission control bindings (nat_le into 15 && nat_le value 15)
    (λ m. after m (opened m.table m.words (register_at m into))
    (λ o. after m (write_refused m.table o k (register_at m value)) (λ _. written m (saved o k (register_at m value) m.words))))

-- What is told of an opened object; both dynamic spaces are told as 0.
abbrev pub told_opened : Opened → Told
told_opened o = told_object (code o.kind) (cond (nat_lt o.space 2) 0 o.space) o.cells

-- What is told of a word, by the literal that it stands for, if any.
abbrev pub told_as : Table → List ℕ → ℕ → Option Literal → Result Told Refusal
told_as t ws w None = next (opened t ws w) (λ o. Ok (told_opened o))
told_as t ws w (Some (Fixnum z)) = Ok (told_fixnum z)
told_as t ws w (Some (Character c)) = Ok (told_character c)
told_as t ws w (Some Null) = Ok told_null

-- What a word is told to be.
unfoldable pub told_word : Table → List ℕ → ℕ → Result Told Refusal
told_word t ws w = told_as t ws w (literal_of w)

-- What a register holds is told.
unfoldable pub tell_done : ℕ → ℕ → ℕ → Machine → Machine × Result Told Refusal
tell_done control bindings of = admission control bindings (nat_le of 15) (λ m. (m, told_word m.table m.words (register_at m of)))

-- Two registers are compared, word by word.
unfoldable pub same_done : ℕ → ℕ → ℕ → ℕ → Machine → Machine × Result Bool Refusal
same_done control bindings left right = admission control bindings (nat_le left 15 && nat_le right 15) (λ m. (m, Ok (register_at m left == register_at m right)))

-- The read-only words in use, by kind.
abbrev pub read_only_lows : Table → List ℕ
read_only_lows t = low t 3 ∷ low t 7 ∷ low t 11 ∷ low t 15 ∷ low t 19 ∷ []

-- The machine with other ends of frozen words.
abbrev pub with_frozen : Machine → List ℕ → Machine
with_frozen m fs = record {
  words = m.words;
  table = record { starts = m.table.starts; lows = m.table.lows; highs = m.table.highs; froms = m.table.froms; tos = m.table.tos; frozen = fs; held = m.table.held; now = m.table.now };
  stacks = m.stacks;
  edits = m.edits;
  space = m.space;
  foreign = m.foreign;
}

-- All read-only words in use are frozen.
unfoldable pub freeze_done : ℕ → ℕ → Machine → Machine × Result (Unit {0}) Refusal
freeze_done control bindings = admission control bindings true (λ m. (with_frozen m (read_only_lows m.table), Ok tt))

-- New objects go to another space.
abbrev pub with_space : Machine → ℕ → Machine
with_space m n = record { words = m.words; table = m.table; stacks = m.stacks; edits = m.edits; space = n; foreign = m.foreign }

-- The allocation space is set, where there is such a space.
unfoldable pub space_done : ℕ → ℕ → ℕ → Machine → Machine × Result (Unit {0}) Refusal
space_done control bindings n = admission control bindings (is_some (space_at n)) (λ m. (with_space m n, Ok tt))
