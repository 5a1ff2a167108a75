-- A word holds at least one entry.
use Rattle.std.proofs.Common.{◌%◌, arith}
use Rattle.words.proofs.Packing.{per_word-some}
use Rattle.cells.proofs.entry_place.Goals as goal

pub nonzero_div-word : goal.nonzero_div-word
nonzero_div-word c = omega (arith, c.entries_per_word.ensures, per_word-some (c.args.object.access % 5) (omega arith))
