-- The definitions of `lossless`.
pub mod Conditions
pub mod Claims
pub mod Needed
