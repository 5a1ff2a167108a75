-- What is read from a word that was made.
use Rattle.std.proofs.Common.{◌≡◌, ℕ, ◌%◌, ◌<◌, true, ℤ, pos, negsuc, arith}
use Rattle.std.proofs.lemmas.Bool.Decides.{nat_tests}
use Rattle.words.specs.Words.{type_of, subtype_of, space_of, pointer_of, aligned, pointer_word, fixnum_word, character_word, header_word, entries_word, words_of, access_of, count_of}
use Rattle.words.specs.Words.{signed, data_of, fixnum_range, low_half, high_half, joined}

pub type_of-pointer : (c s p : ℕ) → s < 4 → p < 16777216 → type_of (pointer_word c s p) ≡ c
type_of-pointer c s p a b = omega arith

pub space_of-pointer : (c s p : ℕ) → s < 4 → p < 16777216 → space_of (pointer_word c s p) ≡ s
space_of-pointer c s p a b = omega arith

pub pointer_of-pointer : (c s p : ℕ) → p < 16777216 → pointer_of (pointer_word c s p) ≡ p
pointer_of-pointer c s p b = omega arith

pub pointer-fits : (c s p : ℕ) → c < 16 → s < 4 → p < 16777216 → pointer_word c s p < 4294967296
pointer-fits c s p q a b = omega arith

pub type_of-fixnum : (d : ℕ) → d < 268435456 → type_of (fixnum_word d) ≡ 1
type_of-fixnum d h = omega arith

pub type_of-character : (c : ℕ) → c < 256 → type_of (character_word c) ≡ 0
type_of-character c h = omega arith

pub type_of-header : (n : ℕ) → n < 16777216 → type_of (header_word n) ≡ 1
type_of-header n h = omega arith

pub words_of-header : (n : ℕ) → n < 16777216 → words_of (header_word n) ≡ n
words_of-header n h = omega arith

pub access_of-entries : (a n : ℕ) → n < 268435456 → access_of (entries_word a n) ≡ a
access_of-entries a n h = omega arith

pub count_of-entries : (a n : ℕ) → n < 268435456 → count_of (entries_word a n) ≡ n
count_of-entries a n h = omega arith

pub aligned-pointer : (c s p : ℕ) → aligned (pointer_word c s p) ≡ true
aligned-pointer c s p = grind (arith, nat_tests)

-- A word with its two lowest bits zero is the pointer word of its fields.
pub pointer-fields : (w : ℕ) → aligned w ≡ true → pointer_word (type_of w) (space_of w) (pointer_of w) ≡ w
pointer-fields w h = let e : w % 4 ≡ 0 = grind (arith, nat_tests) in omega arith

pub subtype_of-character : (c : ℕ) → c < 256 → subtype_of (character_word c) ≡ 1
subtype_of-character c h = omega arith

pub subtype_of-header : (n : ℕ) → n < 16777216 → subtype_of (header_word n) ≡ 0
subtype_of-header n h = omega arith

pub count_of-fixnum : (d : ℕ) → d < 268435456 → count_of (fixnum_word d) ≡ d
count_of-fixnum d h = omega arith

-- A number in the range of fixnums has 28 bits of data, which stand for it.
pub data-fits : (z : ℤ) → fixnum_range z ≡ true → data_of z < 268435456
data-fits (pos n) h = grind (arith, nat_tests)
data-fits (negsuc n) h = grind (arith, nat_tests)

pub signed-data : (z : ℤ) → fixnum_range z ≡ true → signed (data_of z) ≡ z
signed-data (pos n) h = grind (arith, nat_tests)
signed-data (negsuc n) h = grind (arith, nat_tests)

-- What 28 bits of data stand for is in the range of fixnums, and has those data.
pub signed_range : (d : ℕ) → d < 268435456 → fixnum_range (signed d) ≡ true
signed_range d h = grind (arith, nat_tests)

pub data-signed : (d : ℕ) → d < 268435456 → data_of (signed d) ≡ d
data-signed d h = grind (arith, nat_tests)

-- A word is its halves joined, and has the halves that it was joined of.
pub joined-halves : (w : ℕ) → joined (low_half w) (high_half w) ≡ w
joined-halves w = omega arith

pub low_half-joined : (lo hi : ℕ) → lo < 65536 → low_half (joined lo hi) ≡ lo
low_half-joined lo hi h = omega arith

pub high_half-joined : (lo hi : ℕ) → lo < 65536 → high_half (joined lo hi) ≡ hi
high_half-joined lo hi h = omega arith

pub joined-fits : (lo hi : ℕ) → lo < 65536 → hi < 65536 → joined lo hi < 4294967296
joined-fits lo hi h k = omega arith
