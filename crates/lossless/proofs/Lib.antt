-- The laws and proofs of `lossless`.
pub mod Local
pub mod LocalKinds
pub mod Assign
pub mod Sharps
pub mod FreeRows
pub mod Stretches
pub mod Records
pub mod NothingLost
pub mod Tests
pub mod Tables
