-- The laws and proofs of `evaluation`.
pub mod Lines
pub mod Printed
pub mod Inputs
