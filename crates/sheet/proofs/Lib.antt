pub mod Telling
pub mod Run
