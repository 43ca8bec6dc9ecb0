-- The definitions of `clocks`.
pub mod Model
