pub mod Shape
pub mod Entries
pub mod Lawful
