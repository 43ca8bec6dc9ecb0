-- The definitions of `lookups`.
pub mod Lookup
