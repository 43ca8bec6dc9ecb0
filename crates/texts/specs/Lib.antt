-- The definitions of `texts`.
pub mod Calls
pub mod Model
