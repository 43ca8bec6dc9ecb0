-- The laws and proofs of `vector_calls`.
pub mod Granting
pub mod Unsettled
pub mod RangeRuns
pub mod RangeClaims
