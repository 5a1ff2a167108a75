pub mod Steps
pub mod LineLaws
pub mod Texts
pub mod Promises
