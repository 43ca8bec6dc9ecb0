-- The definitions of `memories`.
pub mod Effects
