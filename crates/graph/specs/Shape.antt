-- What a kind contributes: type code, place in the table, boxedness, size and the words that come before the cells.
use Rattle.std.specs.Prelude.{◌≡◌, ℕ, ◌+◌, ◌-◌, ◌^◌, ◌<◌, true, false, cond, ◌≢◌, List, map, length, ◌==◌, nat_lt, slice_index, slice_index_or}
pub use Rattle.kinds.specs.Kinds.{code, index, kinds, boxed, heads, size_by, accessible}
use Rattle.words.specs.Words.{fixnum_word, character_word, null_word, trap_word, header_word, entries_word}
use Rattle.words.specs.Packing.{bits_of, packed_word, packed_count}
use Rattle.graph.specs.Graph.{Immediate, fixnum, character, null, trap, Value, plain, ref, Kind, uvector, string, bvector, symbol, list, Object}

-- The word of an immediate value.
abbrev pub immediate_word : Immediate → ℕ
immediate_word (fixnum d) = fixnum_word d
immediate_word (character c) = character_word c
immediate_word null = null_word
immediate_word trap = trap_word

-- An immediate value has a word: its number fits the word's field.
abbrev pub Small : Immediate → Type 0
Small (fixnum d) = d < 268435456
Small (character c) = c < 256
Small null = Unit {0}
Small trap = Unit {0}

-- An entry of an unboxed object as a number.
abbrev pub entry_of : Value → ℕ
entry_of (plain (fixnum d)) = d
entry_of (plain (character c)) = c
entry_of (plain null) = 0
entry_of (plain trap) = 0
entry_of (ref i) = 0

-- The entries of an unboxed object as numbers.
abbrev pub entries : Object → List ℕ
entries o = map entry_of o.cells

-- All words of an object.
abbrev pub size : Object → ℕ
size o = heads o.kind + cond (boxed o.kind) (length o.cells) (packed_count o.access (length o.cells))

-- What word k of an object has to be: this very word, or one that means this value.
pub data Want : Type 0 where
  exact : ℕ → Want
  value : Value → Want

-- Word k of an object's head.
abbrev pub head_word : Object → ℕ → ℕ
head_word o k = cond (k == 0) (header_word (size o)) (entries_word o.access (length o.cells))

-- What word k after the head of an object has to be.
abbrev pub body_want : Object → ℕ → Want
body_want o k = cond (boxed o.kind) (value (slice_index_or o.cells k (plain trap))) (exact (packed_word o.access (entries o) k))

-- What word k of an object has to be.
unfoldable pub want : Object → ℕ → Want
want o k = cond (nat_lt k (heads o.kind)) (exact (head_word o k)) (body_want o (k - heads o.kind))

-- How many cells a kind may have.
abbrev pub Counted : Kind → ℕ → Type 0
Counted uvector n = n < 65535
Counted string n = n < 65535
Counted bvector n = n < 65535
Counted symbol n = n ≡ 6
Counted list n = n ≡ 2

-- An entry of an unboxed object, as a value.
abbrev pub entry_value : Kind → ℕ → Value
entry_value uvector e = plain (fixnum e)
entry_value string e = plain (character e)
entry_value bvector e = plain (fixnum e)
entry_value symbol e = plain (fixnum e)
entry_value list e = plain (fixnum e)

-- An object has the cells its kind asks for.
pub record Shaped (o : Object) : Type 0 where
  pub thawed : o.space ≢ 3 → o.frozen ≡ false
  pub counted : Counted o.kind (length o.cells)
  pub access_known : o.access < 5
  pub access_typed : accessible o.kind o.access ≡ true
  pub entry_small : boxed o.kind ≡ false → (k : ℕ) → slice_index (entries o) k < 2 ^ bits_of o.access
  pub entry_typed : boxed o.kind ≡ false → (k : ℕ) → k < length o.cells → slice_index_or o.cells k (plain trap) ≡ entry_value o.kind (slice_index (entries o) k)
