pub mod Windows
pub mod Made
