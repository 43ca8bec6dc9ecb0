-- The definitions of `steps`.
pub mod Step
pub mod States
pub mod Encoding
