pub mod Ordered
pub mod Machine
pub mod Places
pub mod Shows
pub mod Fresh
pub mod Flip
pub mod Flips
pub mod Written
