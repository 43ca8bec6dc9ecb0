-- The laws and proofs of `memories`.
pub mod LoadSteps
pub mod StoreTurns
pub mod PlainMemory
pub mod Described
