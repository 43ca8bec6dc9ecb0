-- The definitions of `conclusions`.
pub mod Pass
pub mod Reset
pub mod Encoding
