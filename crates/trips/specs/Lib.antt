-- The definitions of `trips`.
pub mod Trips
