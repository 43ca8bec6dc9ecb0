-- The definitions of `letters`.
pub mod Reads
pub mod Model
