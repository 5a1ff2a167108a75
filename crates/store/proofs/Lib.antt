pub mod Sums
pub mod Laid
