-- The laws and proofs of `vectors`.
pub mod Lists
pub mod ListParts
pub mod Rows
pub mod Choices
pub mod Operands
pub mod Hulls
pub mod Insides
pub mod Joins
pub mod Widened
pub mod Sums
pub mod Distincts
pub mod Bests
pub mod BestLaws
pub mod Apart
pub mod Narrowed
pub mod Told
