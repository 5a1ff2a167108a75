-- The values that can be written out in a text or in a call, and their words.
use Rattle.std.specs.Prelude.{ℕ, ◌/◌, ◌%◌, Bool, true, cond, Some, None, Option, ◌==◌, nat_lt}
use Rattle.words.specs.Words.{type_of, count_of, signed, data_of, fixnum_range, fixnum_word, character_word, null_word}
use Rattle.words.specs.declared.literals.Literal.{Literal}
use Rattle.words.specs.declared.literals.Literal.TheVariants.{Fixnum, Character, Null}

-- A literal has a word: a fixnum in its range, a character code from 0 to 255, or null.
abbrev pub literal_range : Literal → Bool
literal_range (Fixnum z) = fixnum_range z
literal_range (Character c) = nat_lt c 256
literal_range Null = true

-- The word of a literal that has one.
abbrev pub literal_word : Literal → ℕ
literal_word (Fixnum z) = fixnum_word (data_of z)
literal_word (Character c) = character_word c
literal_word Null = null_word

-- The word of a literal, or none where it is out of range.
abbrev pub word_of : Literal → Option ℕ
word_of l = cond (literal_range l) (Some (literal_word l)) None

-- The literal that a word stands for: a fixnum, a character whose other data bits are 0, null, or none.
abbrev pub literal_of : ℕ → Option Literal
literal_of w =
    cond (type_of w == 1) (Some (Fixnum (signed (count_of w))))
    (cond (w / 256 == 65536) (Some (Character (w % 256))) (cond (w == null_word) (Some Null) None))
