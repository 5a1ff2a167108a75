pub mod Rooms
pub mod Laying
pub mod Empty
pub mod Makes
