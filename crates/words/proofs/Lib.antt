pub mod Coding
pub mod Packing
pub mod LiteralWords
pub mod Figures
