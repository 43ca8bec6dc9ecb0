-- The definitions of `lines`.
pub mod Model
