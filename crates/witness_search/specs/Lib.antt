-- The definitions of `witness_search`.
pub mod Witness
pub mod Search
