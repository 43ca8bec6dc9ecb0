-- The laws and proofs of `conclusions`.
pub mod Forgets
pub mod Visits
pub mod OpenBits
pub mod Wider
pub mod Rests
pub mod Answers
