-- The laws and proofs of `lookups`.
pub mod Named
pub mod Loads
pub mod Stores
pub mod LoadTurns
