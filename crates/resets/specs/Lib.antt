-- The definitions of `resets`.
pub mod Model
