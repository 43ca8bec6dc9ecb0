-- The definitions of `reset_search`.
pub mod Encoding
