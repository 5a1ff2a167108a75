-- The worked figures, computed.
use Rattle.std.proofs.Common.{refl}
use Rattle.words.specs.Packing.{pack}
use Rattle.words.specs.Figures.{Figures}

pub figures : Figures
unfolding pack
figures = record { minus_one = refl; letter = refl; none = refl; pointer = refl; forward = refl; string_words = refl; bits = refl; halves = refl }
