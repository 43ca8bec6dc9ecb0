-- The definitions of `checks`.
pub mod Limits
pub mod Check
pub mod Table
pub mod Checks
pub mod Accepted
pub mod Encoding
pub mod Model
