pub mod Words
pub mod Packing
pub mod Literals
pub mod Figures
