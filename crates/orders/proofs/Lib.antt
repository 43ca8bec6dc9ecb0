-- The laws and proofs of `orders`.
pub mod Equal
pub mod Orders
