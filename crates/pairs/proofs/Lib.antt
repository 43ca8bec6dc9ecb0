-- The laws and proofs of `pairs`.
pub mod Targets
pub mod Told
