-- The definitions of `sums`.
pub mod Rule
