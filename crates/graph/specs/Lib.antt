pub mod Graph
pub mod Shape
pub mod Lawful
pub mod Calls
