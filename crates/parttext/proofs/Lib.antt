pub mod Forms
pub mod Unique
pub mod Samples
