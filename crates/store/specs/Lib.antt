pub mod Windows
pub mod View
pub mod Checks
pub mod Flow
