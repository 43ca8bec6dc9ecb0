-- The definitions of `tables`.
pub mod Run
pub mod Demand
pub mod Encoding
pub mod Model
pub mod Known
