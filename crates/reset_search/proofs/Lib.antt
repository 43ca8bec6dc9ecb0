-- The laws and proofs of `reset_search`.
pub mod Trials
pub mod Passes
