-- The definitions of `products`.
pub mod Granted
pub mod ColumnSum
pub mod Factors
pub mod Rule
