-- What each call does: its refusals in the order in which they are tested, its answer, and the state after.
use Rattle.std.specs.Prelude.{ℕ, ◌+◌, ◌^◌, Bool, true, false, cond, not, ◌&&◌, ◌||◌, List, [], ◌∷◌, ◌++◌, map, length, get_or, replicate, Ok, Err, Result, ◌==◌, nat_le, nat_lt, slice_index_or}
use Rattle.words.specs.Words.{data_of, signed}
use Rattle.words.specs.Packing.{bits_of}
use Rattle.words.specs.Literals.{literal_range}
use Rattle.words.specs.declared.literals.Literal.{Literal}
use Rattle.words.specs.declared.literals.Literal.TheVariants.{Fixnum, Character, Null}
use Rattle.kinds.specs.Kinds.{takes, is_unset, is_a}
use Rattle.answers.specs.declared.Told.{Told}
use Rattle.answers.specs.declared.Told.TheVariants.{Fixnum as told_fixnum, Character as told_character, Null as told_null, Object as told_object}
use Rattle.answers.specs.declared.Refusal.{Refusal}
use Rattle.answers.specs.declared.Refusal.TheVariants.{Unknown, WrongKind, OutOfBounds, Unset, Unfit, Frozen, DynamicInReadOnly, NoRoom, Short}
use Rattle.graph.specs.Graph.{fixnum, character, null, trap, Value, plain, ref, Kind, uvector, string, bvector, symbol, list, Object, Graph, nothing, object, put_cell, put_register, add_object}
use Rattle.graph.specs.Shape.{code, index, boxed, size, entry_of}
use Rattle.graph.specs.Lawful.{class_of}

-- A graph, and for each kind and space the words in use and the words that the window has.
pub record State : Type 0 where
  pub graph : Graph
  pub used : Kind → ℕ → ℕ
  pub room : Kind → ℕ → ℕ

-- A call: what refuses it, in order, each with the refusal; what it answers; and what it leaves.
pub record Call (A : Type 0) : Type 0 where
  pub refusals : State → List (Bool × Refusal)
  pub answer : State → A
  pub after : State → State

-- The first refusal that applies, or else the answer.
abbrev pub judged : {A : Type 0} → List (Bool × Refusal) → A → Result A Refusal
judged [] a = Ok a
judged (t ∷ ts) a = cond t.0 (Err t.1) (judged ts a)

-- The answer or the refusal of a call on a state.
abbrev pub outcome : {A : Type 0} → Call A → State → Result A Refusal
outcome c s = judged (c.refusals s) (c.answer s)

-- What a register holds.
abbrev pub register : State → ℕ → Value
register s r = slice_index_or s.graph.registers r (plain trap)

-- The objects of a state.
abbrev pub objects_of : State → List Object
objects_of s = s.graph.objects

-- The state with another graph.
abbrev pub with_graph : State → Graph → State
with_graph s g = record { graph = g; used = s.used; room = s.room }

-- A value refers to an object.
abbrev pub is_object : Value → Bool
is_object (plain x) = false
is_object (ref i) = true

-- Which object a value refers to; none at all where it refers to none.
abbrev pub identity : State → Value → ℕ
identity s (plain x) = length s.graph.objects
identity s (ref i) = i

-- The object that a value refers to.
abbrev pub target : State → Value → Object
target s v = object s.graph (identity s v)

-- A value refers to a dynamic object.
abbrev pub is_dynamic : List Object → Value → Bool
is_dynamic os (plain x) = false
is_dynamic os (ref i) = (get_or os i nothing).space == 0

-- One of the values refers to a dynamic object.
abbrev pub any_dynamic : List Object → List Value → Bool
any_dynamic os [] = false
any_dynamic os (v ∷ vs) = is_dynamic os v || any_dynamic os vs

-- The value that a literal stands for.
abbrev pub literal_value : Literal → Value
literal_value (Fixnum z) = plain (fixnum (data_of z))
literal_value (Character c) = plain (character c)
literal_value Null = plain null

-- Sets a register to a fixnum, a character or null.
abbrev pub put : Bool → ℕ → Literal → Call (Unit {0})
put short to v = record {
  refusals = λ s. (nat_lt 15 to, Unknown) ∷ (short, Short) ∷ (not (literal_range v), OutOfBounds) ∷ [];
  answer = λ s. tt;
  after = λ s. with_graph s (put_register s.graph to (literal_value v));
}

-- A new object in the allocation space.
abbrev pub new_object : State → Kind → ℕ → List Value → Object
new_object s κ a vs = record { kind = κ; access = a; space = s.graph.space; frozen = false; cells = vs }

-- A read-only object would hold a dynamic reference.
abbrev pub leaks : State → Object → Bool
leaks s o = o.space == 3 && any_dynamic (objects_of s) o.cells

-- The object does not fit its window.
abbrev pub full : State → Object → Bool
full s o = nat_lt (s.room o.kind o.space) (s.used o.kind o.space + size o)

-- n more words of a kind are in use in a space.
abbrev pub used_more : (Kind → ℕ → ℕ) → Kind → ℕ → ℕ → Kind → ℕ → ℕ
used_more u κ s n μ e = u μ e + cond (index μ == index κ && e == s) n 0

-- The object is made, and the register refers to it.
abbrev pub added : State → Object → ℕ → State
added s o to = record {
  graph = put_register (add_object s.graph o) to (ref (length s.graph.objects));
  used = used_more s.used o.kind o.space (size o);
  room = s.room;
}

-- A making: the registers and numbers that it names are unknown, the loan is short, what refuses this kind of object, then
-- what refuses any object. It answers how many words were cleaned.
abbrev pub making : Bool → Bool → (State → List (Bool × Refusal)) → (State → Object) → ℕ → Call ℕ
making unknown short early o to = record {
  refusals = λ s. (unknown, Unknown) ∷ (short, Short) ∷ (early s ++ ((leaks s (o s), DynamicInReadOnly) ∷ (full s (o s), NoRoom) ∷ []));
  answer = λ s. 0;
  after = λ s. added s (o s) to;
}

-- Makes a list of what two registers hold.
abbrev pub make_list : Bool → ℕ → ℕ → ℕ → Call ℕ
make_list short to car cdr =
    making (nat_lt 15 to || (nat_lt 15 car || nat_lt 15 cdr)) short (λ s. []) (λ s. new_object s list 0 (register s car ∷ register s cdr ∷ [])) to

-- Makes a symbol whose print name is the string in a register; its value and definition are unset, its other cells null.
abbrev pub make_symbol : Bool → ℕ → ℕ → Call ℕ
make_symbol short to name =
    making (nat_lt 15 to || nat_lt 15 name) short
    (λ s. (not (is_a string (class_of (objects_of s) (register s name))), WrongKind) ∷ [])
    (λ s. new_object s symbol 0 (plain trap ∷ plain trap ∷ plain null ∷ register s name ∷ plain null ∷ plain null ∷ []))
    to

-- A vector, a string and words have at most this many entries.
abbrev pub max_count : ℕ
max_count = 65534

-- Makes a vector of so many entries, each what a register holds.
abbrev pub make_vector : Bool → ℕ → ℕ → ℕ → Call ℕ
make_vector short to count fill =
    making (nat_lt 15 to || nat_lt 15 fill) short (λ s. (nat_lt max_count count, OutOfBounds) ∷ []) (λ s. new_object s bvector 0 (replicate count (register s fill))) to

-- Makes a string of so many characters of code 0.
abbrev pub make_string : Bool → ℕ → ℕ → Call ℕ
make_string short to count =
    making (nat_lt 15 to) short (λ s. (nat_lt max_count count, OutOfBounds) ∷ []) (λ s. new_object s string 3 (replicate count (plain (character 0)))) to

-- Makes an unboxed vector of so many entries of an access type, all 0.
abbrev pub make_words : Bool → ℕ → ℕ → ℕ → Call ℕ
make_words short to count access =
    making (nat_lt 15 to || nat_lt 4 access) short (λ s. (nat_lt max_count count, OutOfBounds) ∷ []) (λ s. new_object s uvector access (replicate count (plain (fixnum 0)))) to

-- Cell k of the object that a value refers to.
abbrev pub cell : State → Value → ℕ → Value
cell s v k = slice_index_or (target s v).cells k (plain trap)

-- Reads a cell or entry into a register.
abbrev pub read : Bool → ℕ → ℕ → ℕ → Call (Unit {0})
read short to from at = record {
  refusals = λ s.
      (nat_lt 15 to || nat_lt 15 from, Unknown) ∷ (short, Short) ∷ (not (is_object (register s from)), WrongKind) ∷
      (nat_le (length (target s (register s from)).cells) at, OutOfBounds) ∷ (is_unset (class_of (objects_of s) (cell s (register s from) at)), Unset) ∷ [];
  answer = λ s. tt;
  after = λ s. with_graph s (put_register s.graph to (cell s (register s from) at));
}

-- A cell takes what its kind takes; a packed entry only a number that its bits hold.
abbrev pub fits : List Object → Object → ℕ → Value → Bool
fits os o k v = takes o.kind k (class_of os v) && (boxed o.kind || nat_lt (entry_of v) (2 ^ bits_of o.access))

-- Writes what a register holds into a cell or entry.
abbrev pub write : Bool → ℕ → ℕ → ℕ → Call (Unit {0})
write short into at value = record {
  refusals = λ s.
      (nat_lt 15 into || nat_lt 15 value, Unknown) ∷ (short, Short) ∷ (not (is_object (register s into)), WrongKind) ∷
      (nat_le (length (target s (register s into)).cells) at, OutOfBounds) ∷ (not (fits (objects_of s) (target s (register s into)) at (register s value)), Unfit) ∷
      ((target s (register s into)).frozen, Frozen) ∷ ((target s (register s into)).space == 3 && is_dynamic (objects_of s) (register s value), DynamicInReadOnly) ∷ [];
  answer = λ s. tt;
  after = λ s. with_graph s (put_cell s.graph (identity s (register s into)) at (register s value));
}

-- What a value is told to be.
abbrev pub told : State → Value → Told
told s (plain (fixnum d)) = told_fixnum (signed d)
told s (plain (character c)) = told_character c
told s (plain null) = told_null
told s (plain trap) = told_null
told s (ref i) = told_object (code (object s.graph i).kind) (object s.graph i).space (length (object s.graph i).cells)

-- Tells what a register holds.
abbrev pub tell : Bool → ℕ → Call Told
tell short of = record {
  refusals = λ s. (nat_lt 15 of, Unknown) ∷ (short, Short) ∷ [];
  answer = λ s. told s (register s of);
  after = λ s. s;
}

-- What tells values apart: a sort and a number.
abbrev pub sort : Value → ℕ
sort (plain (fixnum d)) = 0
sort (plain (character c)) = 1
sort (plain null) = 2
sort (plain trap) = 3
sort (ref i) = 4

-- The number that tells values of one sort apart.
abbrev pub number : Value → ℕ
number (plain (fixnum d)) = d
number (plain (character c)) = c
number (plain null) = 0
number (plain trap) = 0
number (ref i) = i

-- Two values are one value.
abbrev pub alike : Value → Value → Bool
alike v w = sort v == sort w && number v == number w

-- Whether two registers hold one value.
abbrev pub same : Bool → ℕ → ℕ → Call Bool
same short left right = record {
  refusals = λ s. (nat_lt 15 left || nat_lt 15 right, Unknown) ∷ (short, Short) ∷ [];
  answer = λ s. alike (register s left) (register s right);
  after = λ s. s;
}

-- Dynamic, static or read-only.
abbrev pub is_space : ℕ → Bool
is_space n = n == 0 || (n == 2 || n == 3)

-- The graph with another allocation space.
abbrev pub with_space : Graph → ℕ → Graph
with_space g n = record { objects = g.objects; registers = g.registers; control = g.control; bindings = g.bindings; edits = g.edits; space = n }

-- Sets the space that new objects go to.
abbrev pub set_space : Bool → ℕ → Call (Unit {0})
set_space short n = record {
  refusals = λ s. (not (is_space n), Unknown) ∷ (short, Short) ∷ [];
  answer = λ s. tt;
  after = λ s. with_graph s (with_space s.graph n);
}

-- Read-only objects become frozen.
abbrev pub frozen_object : Object → Object
frozen_object o = record { kind = o.kind; access = o.access; space = o.space; frozen = o.frozen || (o.space == 3); cells = o.cells }

-- The graph with every read-only object frozen.
abbrev pub frozen_all : Graph → Graph
frozen_all g = record { objects = map frozen_object g.objects; registers = g.registers; control = g.control; bindings = g.bindings; edits = g.edits; space = g.space }

-- Freezes the read-only objects that there are.
abbrev pub freeze : Bool → Call (Unit {0})
freeze short = record {
  refusals = λ s. (short, Short) ∷ [];
  answer = λ s. tt;
  after = λ s. with_graph s (frozen_all s.graph);
}
