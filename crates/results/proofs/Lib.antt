-- The laws and proofs of `results`.
pub mod OneNumber
pub mod DoubledResults
pub mod DoubledArms
