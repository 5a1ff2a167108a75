-- The laws of the five makings: each answers as the graph does, stays within the windows, and repeats a foreign word once found.
pub use Rattle.laws.proofs.Lists.{list-answers, list-stays, list-sticks}
pub use Rattle.laws.proofs.Symbols.{symbol-answers, symbol-stays, symbol-sticks}
pub use Rattle.laws.proofs.Vectors.{vector-answers, vector-stays, vector-sticks}
pub use Rattle.laws.proofs.Packed.{string-answers, string-stays, string-sticks, words-answers, words-stays, words-sticks}
