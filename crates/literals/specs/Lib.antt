pub mod Literals
pub mod Spelling
pub mod Laws
