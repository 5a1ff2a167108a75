pub mod Halves
pub mod Pasted
pub mod Access
pub mod Flow
pub mod Figures
