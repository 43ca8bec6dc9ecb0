-- The definitions of `needs`.
pub mod Needs
pub mod Prune
pub mod Effects
pub mod Encoding
