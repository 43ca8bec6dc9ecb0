-- The laws of `steps`.
pub mod Put
pub mod Copies
pub mod Rooms
