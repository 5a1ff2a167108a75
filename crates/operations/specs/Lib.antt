pub mod Names
pub mod Laws
