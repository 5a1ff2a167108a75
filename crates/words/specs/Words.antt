-- The fields of a 32-bit word, and the words that are made of them.
use Rattle.std.specs.Prelude.{ℕ, ◌+◌, ◌-◌, ◌*◌, ◌/◌, ◌%◌, Bool, cond, ℤ, pos, negsuc, ◌==◌, nat_lt}

-- The type code of a word: bits 28 to 31.
abbrev pub type_of : ℕ → ℕ
type_of w = w / 268435456

-- The subtype of a word: bits 24 to 27.
abbrev pub subtype_of : ℕ → ℕ
subtype_of w = w / 16777216 % 16

-- The space code of a pointer word: bits 26 and 27.
abbrev pub space_of : ℕ → ℕ
space_of w = w / 67108864 % 4

-- The pointer of a pointer word, in words from its window's start: bits 2 to 25.
abbrev pub pointer_of : ℕ → ℕ
pointer_of w = w / 4 % 16777216

-- The two lowest bits are zero, as in every pointer word.
abbrev pub aligned : ℕ → Bool
aligned w = w % 4 == 0

-- The pointer word with the type code c, the space code s and the pointer p.
abbrev pub pointer_word : ℕ → ℕ → ℕ → ℕ
pointer_word c s p = c * 268435456 + s * 67108864 + p * 4

-- The GC-Forward to a copy: the space code s and the pointer p of the copy.
abbrev pub forward_word : ℕ → ℕ → ℕ
forward_word s p = pointer_word 15 s p

-- The fixnum with the 28 bits of data d.
abbrev pub fixnum_word : ℕ → ℕ
fixnum_word d = 268435456 + d

-- The character with the code c.
abbrev pub character_word : ℕ → ℕ
character_word c = 16777216 + c

-- The null value.
abbrev pub null_word : ℕ
null_word = 83886080

-- Trap, the mark of an unset cell.
abbrev pub trap_word : ℕ
trap_word = 0

-- The first word of a vector or string that has n words in all.
abbrev pub header_word : ℕ → ℕ
header_word n = 268435456 + n

-- The second word of an unboxed vector or string: its access type a and its number of entries n.
abbrev pub entries_word : ℕ → ℕ → ℕ
entries_word a n = a * 268435456 + n

-- The words in all that a header names: bits 0 to 23.
abbrev pub words_of : ℕ → ℕ
words_of w = w % 16777216

-- The access type that an entries word names: bits 28 to 31.
abbrev pub access_of : ℕ → ℕ
access_of w = w / 268435456

-- The number of entries that an entries word names: bits 0 to 27.
abbrev pub count_of : ℕ → ℕ
count_of w = w % 268435456

-- The number that 28 bits of data stand for, in two's complement.
abbrev pub signed : ℕ → ℤ
signed d = cond (nat_lt d 134217728) (pos d) (negsuc (268435455 - d))

-- The 28 bits of data that stand for a number from -134217728 to 134217727.
abbrev pub data_of : ℤ → ℕ
data_of (pos n) = n
data_of (negsuc n) = 268435455 - n

-- A number has a fixnum: it is from -134217728 to 134217727.
abbrev pub fixnum_range : ℤ → Bool
fixnum_range (pos n) = nat_lt n 134217728
fixnum_range (negsuc n) = nat_lt n 134217728

-- The lower half of a word: bits 0 to 15.
abbrev pub low_half : ℕ → ℕ
low_half w = w % 65536

-- The upper half of a word: bits 16 to 31.
abbrev pub high_half : ℕ → ℕ
high_half w = w / 65536

-- The word with the lower half lo and the upper half hi.
abbrev pub joined : ℕ → ℕ → ℕ
joined lo hi = lo + 65536 * hi
