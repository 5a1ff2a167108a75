pub mod Make
pub mod Makings
pub mod Object
