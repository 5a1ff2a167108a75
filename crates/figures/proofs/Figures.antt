-- The worked figures, computed.
use Prim.Native.Nat.{ℕ, ◌+◌}
use mathlib.Core.Path.{◌≡◌, refl, ap}
use mathlib.Core.List.{List}
use lib.ListN.{length}
use Rattle.words.specs.Words.{header_word, entries_word}
use Rattle.words.specs.Packing.{pack, packed_count}
use Rattle.memory.proofs.Placed.{placed}
use Rattle.graph.specs.Graph.{Value}
use Rattle.graph.specs.Shape.{want, exact}
use Rattle.figures.specs.Figures.{bits, Figures}

-- The head of any 33 one-bit entries.
bits-head : (vs : List Value) → length vs ≡ 33 → (want (bits vs) 0 ≡ exact 0x10000004) × (want (bits vs) 1 ≡ exact 0x00000021)
unfolding want
bits-head vs e = (ap (λ (n : ℕ). exact (header_word (2 + packed_count 0 n))) e, ap (λ (n : ℕ). exact (entries_word 0 n)) e)

pub figures : Figures
unfolding want pack
figures = record {
  minus_one = refl;
  letter = refl;
  none = refl;
  pointer = refl;
  forward = refl;
  string_size = refl;
  string_first = refl;
  string_second = refl;
  string_third = refl;
  bits_first = λ vs e. (bits-head vs e).0;
  bits_second = λ vs e. (bits-head vs e).1;
  low = refl;
  high = refl;
  place = placed.place;
}
