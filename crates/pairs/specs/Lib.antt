-- The definitions of `pairs`.
pub mod Encoding
