-- The definitions of `pruning`.
pub mod Model
