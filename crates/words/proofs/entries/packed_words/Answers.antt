-- Words that each hold some entries are as many as the entries' bits fill.
use Rattle.std.proofs.Common.{◌%◌, arith}
use Rattle.words.proofs.Packing.{per_word-some, packed-ceil}
use Rattle.words.proofs.entries.packed_words.Goals as goal

pub div_ceil-requires : goal.div_ceil-requires
div_ceil-requires c = omega (arith, per_word-some (c.args.access % 5) (omega arith))

pub returns : goal.returns
returns c = let e = packed-ceil (c.args.access % 5) c.args.count (omega arith) in cc
