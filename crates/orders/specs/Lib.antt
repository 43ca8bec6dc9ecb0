-- The definitions of `orders`.
pub mod Order
