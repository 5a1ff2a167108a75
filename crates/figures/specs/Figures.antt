-- The worked figures of the formats, as one fact of the definitions that the contracts use.
use Rattle.std.specs.Prelude.{ℕ, ◌<◌, ◌≡◌, false, List, [], ◌∷◌, negsuc, length, slice_index}
use Rattle.words.specs.Words.{data_of, pointer_word, forward_word, low_half, high_half}
use Rattle.memory.specs.Halves.{paired}
use Rattle.graph.specs.Graph.{fixnum, character, null, Value, plain, uvector, string, list, Object}
use Rattle.graph.specs.Shape.{code, immediate_word, size, want, exact}

-- The string AB.
abbrev pub ab : Object
ab = record { kind = string; access = 3; space = 0; frozen = false; cells = plain (character 65) ∷ plain (character 66) ∷ [] }

-- The unboxed vector of these one-bit entries.
abbrev pub bits : List Value → Object
bits vs = record { kind = uvector; access = 0; space = 0; frozen = false; cells = vs }

-- The words of the fixnum -1, the character 65, null, list pointer 10 in Dynamic-1 and the GC-Forward to that place; the words of
-- the string AB; the first two words of any 33 one-bit entries; the halves of that list pointer, and where they stand in a memory
-- of halves that has it at place 3.
pub record Figures : Type 0 where
  pub minus_one : immediate_word (fixnum (data_of (negsuc 0))) ≡ 0x1FFFFFFF
  pub letter : immediate_word (character 65) ≡ 0x01000041
  pub none : immediate_word null ≡ 0x05000000
  pub pointer : pointer_word (code list) 1 10 ≡ 0xB4000028
  pub forward : forward_word 1 10 ≡ 0xF4000028
  pub string_size : size ab ≡ 3
  pub string_first : want ab 0 ≡ exact 0x10000003
  pub string_second : want ab 1 ≡ exact 0x30000002
  pub string_third : want ab 2 ≡ exact 0x00004241
  pub bits_first : (vs : List Value) → length vs ≡ 33 → want (bits vs) 0 ≡ exact 0x10000004
  pub bits_second : (vs : List Value) → length vs ≡ 33 → want (bits vs) 1 ≡ exact 0x00000021
  pub low : low_half 0xB4000028 ≡ 0x0028
  pub high : high_half 0xB4000028 ≡ 0xB400
  pub place : (hs : List ℕ) → ((k : ℕ) → slice_index hs k < 65536) → slice_index (paired hs) 3 ≡ 0xB4000028 → (slice_index hs 6 ≡ 0x0028) × (slice_index hs 7 ≡ 0xB400)
