-- The laws and proofs of `witness_search`.
pub mod Possible
pub mod Cases
pub mod Operations
pub mod Search
