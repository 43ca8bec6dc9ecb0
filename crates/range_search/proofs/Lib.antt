-- The laws and proofs of `range_search`.
pub mod Extremes
pub mod Places
pub mod Parts
pub mod Covered
pub mod Differing
pub mod Splices
pub mod Spans
pub mod Answers
pub mod Finding
