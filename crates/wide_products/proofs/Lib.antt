-- The laws and proofs of `wide_products`.
pub mod Extensions
pub mod SignCases
pub mod WideBest
pub mod SignPlaces
pub mod Kernel
