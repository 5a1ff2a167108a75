pub mod Pairs
pub mod Pasting
pub mod Placed
