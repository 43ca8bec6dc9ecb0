-- The laws and proofs of `letters`.
pub mod Telling
pub mod Among
pub mod ReadVectors
