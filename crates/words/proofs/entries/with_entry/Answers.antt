-- The old entry can be taken from the word, and the new one added to what is left.
use Rattle.std.proofs.Common.{◌≡◌, ℕ, ◌+◌, ◌-◌, ◌*◌, ◌%◌, ◌^◌, ◌<◌, ◌≤◌, arith}
use Rattle.std.proofs.lemmas.Nat.{mod_below, pow_pos}
use Rattle.words.specs.Packing.{bits_of, scale_of, entry_of}
use Rattle.words.proofs.Packing.{entry-part, with-fits}
use Rattle.words.proofs.entries.with_entry.Goals as goal

parts : (w a k v old scale range : ℕ) → scale ≡ scale_of a k → old ≡ entry_of w a k → range ≡ 2 ^ bits_of a → a < 5 → w < 2 ^ 32 →
    (old * scale ≤ w) × (w - old * scale + v % range * scale < 2 ^ 32)
parts w a k v old scale range e f g l h = rw (e, f, g) (entry-part w a k, with-fits w a k (v % 2 ^ bits_of a) l h (mod_below v (2 ^ bits_of a) (pow_pos (bits_of a))))

parts_of : (c : goal.After-entry_range) → (c.entry_of-old.result * c.entry_scale-scale.result ≤ c.args.word) ×
    (c.args.word - c.entry_of-old.result * c.entry_scale-scale.result + c.args.value % c.entry_range.result * c.entry_scale-scale.result < 2 ^ 32)
parts_of c = parts _ (c.args.access % 5) c.args.k c.args.value _ _ _ c.entry_scale-scale.ensures c.entry_of-old.ensures c.entry_range.ensures (omega arith) (omega arith)

pub overflow_mul-result-2 : goal.overflow_mul-result-2
overflow_mul-result-2 c = omega (arith, parts_of c)

pub overflow_add-result : goal.overflow_add-result
overflow_add-result c = omega (arith, parts_of c)
