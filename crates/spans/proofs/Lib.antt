-- The laws and proofs of `spans`.
pub mod Turns
