-- The laws and proofs of `texts`.
pub mod ReadChecks
pub mod ReadLeft
pub mod Bodies
pub mod ReadCall
pub mod WriteCall
