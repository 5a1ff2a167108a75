-- An entry's bits lie inside its word, so the shift loses nothing.
use Rattle.std.proofs.Common.{◌≡◌, ℕ, ◌*◌, ◌%◌, ◌^◌, ◌<◌, ◌∙◌, arith}
use Rattle.std.proofs.lemmas.Nat.{one_shl}
use Rattle.words.specs.Packing.{bits_of, per_word, scale_of}
use Rattle.words.proofs.Packing.{per_word-some, bits_inside, shift-inside, scale-power}
use Rattle.words.proofs.entries.entry_scale.Goals as goal

shift : (b n a k : ℕ) → b ≡ bits_of a → n ≡ per_word a → a < 5 → (b * (k % n) < 32) × (2 ^ (b * (k % n)) ≡ scale_of a k)
shift b n a k e f l = rw (e, f) (omega (arith, shift-inside a k l, bits_inside a l), scale-power a k)

shift_of : (c : goal.After-entries_per_word) → (c.entry_bits.result * (c.args.k % c.entries_per_word.result) < 32) ×
    (2 ^ (c.entry_bits.result * (c.args.k % c.entries_per_word.result)) ≡ scale_of (c.args.access % 5) c.args.k)
shift_of c = shift _ _ (c.args.access % 5) c.args.k c.entry_bits.ensures c.entries_per_word.ensures (omega arith)

pub nonzero_rem-result : goal.nonzero_rem-result
nonzero_rem-result c = omega (arith, per_word-some (c.args.access % 5) (omega arith))

pub overflow_mul-result : goal.overflow_mul-result
overflow_mul-result c = omega (arith, (shift_of c).0)

pub overflow_shl-result : goal.overflow_shl-result
overflow_shl-result c = (shift_of c).0

pub returns : goal.returns
returns c = one_shl _ 32 (shift_of c).0 ∙ (shift_of c).1
