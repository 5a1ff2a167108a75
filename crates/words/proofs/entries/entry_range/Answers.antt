-- An entry has at most 16 bits, so the shift loses nothing.
use Rattle.std.proofs.Common.{◌%◌, ◌^◌, ◌<◌, ap, ◌∙◌, arith}
use Rattle.std.proofs.lemmas.Nat.{one_shl}
use Rattle.words.proofs.Packing.{bits_inside}
use Rattle.words.proofs.entries.entry_range.Goals as goal

pub overflow_shl-result : goal.overflow_shl-result
overflow_shl-result c = omega (arith, bits_inside (c.args.access % 5) (omega arith))

pub returns : goal.returns
returns c =
    let l : c.entry_bits.result < 32 = omega (arith, bits_inside (c.args.access % 5) (omega arith)) in
    one_shl c.entry_bits.result 32 l ∙ ap (λ n. 2 ^ n) c.entry_bits.ensures
