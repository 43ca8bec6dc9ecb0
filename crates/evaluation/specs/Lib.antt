-- The definitions of `evaluation`.
pub mod Evaluate
