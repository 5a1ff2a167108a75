-- Worked figures of the formats, as one fact of the definitions.
use Rattle.std.specs.Prelude.{◌≡◌, ◌+◌, [], ◌∷◌, negsuc}
use Rattle.words.specs.Words.{fixnum_word, data_of, character_word, null_word, pointer_word, forward_word, header_word, entries_word, low_half, high_half}
use Rattle.words.specs.Packing.{packed_word, packed_count}

-- The words of the fixnum -1, the character 65, null, list pointer 10 in Dynamic-1 and its GC-Forward, the string AB,
-- the first two words of 33 one-bit entries, and the halves of that list pointer.
pub record Figures : Type 0 where
  pub minus_one : fixnum_word (data_of (negsuc 0)) ≡ 0x1FFFFFFF
  pub letter : character_word 65 ≡ 0x01000041
  pub none : null_word ≡ 0x05000000
  pub pointer : pointer_word 11 1 10 ≡ 0xB4000028
  pub forward : forward_word 1 10 ≡ 0xF4000028
  pub string_words : (header_word (2 + packed_count 3 2) ∷ entries_word 3 2 ∷ packed_word 3 (65 ∷ 66 ∷ []) 0 ∷ []) ≡ (0x10000003 ∷ 0x30000002 ∷ 0x00004241 ∷ [])
  pub bits : (header_word (2 + packed_count 0 33) ∷ entries_word 0 33 ∷ []) ≡ (0x10000004 ∷ 0x00000021 ∷ [])
  pub halves : (low_half 0xB4000028 ∷ high_half 0xB4000028 ∷ []) ≡ (0x0028 ∷ 0xB400 ∷ [])
