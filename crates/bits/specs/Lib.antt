-- The definitions of `bits`.
pub mod Limits
pub mod Bit
pub mod Below
pub mod Counted
pub mod Reversed
pub mod Four
