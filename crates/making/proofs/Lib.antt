pub mod Emplaced
pub mod Made
pub mod Room
pub mod Cursors
