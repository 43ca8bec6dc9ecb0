-- The definitions of `printing`.
pub mod Put
