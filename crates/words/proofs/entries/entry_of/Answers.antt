-- The scale of an entry is not 0.
use Rattle.std.proofs.Common.{◌%◌, arith}
use Rattle.words.proofs.Packing.{scale-some}
use Rattle.words.proofs.entries.entry_of.Goals as goal

pub nonzero_div-result : goal.nonzero_div-result
nonzero_div-result c = omega (arith, scale-some (c.args.access % 5) c.args.k)
