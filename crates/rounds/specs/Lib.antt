-- The definitions of `rounds`.
pub mod Clock
pub mod Settle
pub mod Encoding
