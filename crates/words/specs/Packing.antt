-- Entries packed into words: entry 0 in the lowest bits of the first word, bits left over 0.
use Rattle.std.specs.Prelude.{ℕ, zero, suc, ◌+◌, ◌-◌, ◌*◌, ◌/◌, ◌%◌, ◌^◌, List, slice_index}

-- The bits of one entry at the access type a.
abbrev pub bits_of : ℕ → ℕ
bits_of a = 2 ^ a

-- The entries that one word holds at the access type a.
abbrev pub per_word : ℕ → ℕ
per_word a = 32 / 2 ^ a

-- The n entries from place `at` on as digits in base b, the first one lowest; entries past the end are 0.
unfoldable pub pack : ℕ → ℕ → List ℕ → ℕ → ℕ
pack b zero es at = 0
pack b (suc n) es at = slice_index es at + b * pack b n es (at + 1)

-- Word j of the entries es, packed at the access type a.
abbrev pub packed_word : ℕ → List ℕ → ℕ → ℕ
packed_word a es j = pack (2 ^ bits_of a) (per_word a) es (j * per_word a)

-- The words that n entries take at the access type a.
abbrev pub packed_count : ℕ → ℕ → ℕ
packed_count a n = (n * bits_of a + 31) / 32

-- What one step of entry k of the access type a is worth in the word that holds it.
abbrev pub scale_of : ℕ → ℕ → ℕ
scale_of a k = (2 ^ bits_of a) ^ (k % per_word a)

-- Entry k, read from the packed word w that holds it.
abbrev pub entry_of : ℕ → ℕ → ℕ → ℕ
entry_of w a k = w / scale_of a k % 2 ^ bits_of a

-- The packed word w that holds entry k, with that entry replaced by v.
abbrev pub with_entry : ℕ → ℕ → ℕ → ℕ → ℕ
with_entry w a k v = w - entry_of w a k * scale_of a k + v * scale_of a k
