-- The laws and proofs of `columns`.
pub mod ProductMask
pub mod Marked
pub mod Untouched
pub mod Ends
pub mod Between
pub mod Parts
pub mod EveryChoice
pub mod LowBits
pub mod Taken
pub mod Ones
