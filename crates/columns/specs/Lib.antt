-- The definitions of `columns`.
pub mod Formed
pub mod Settled
pub mod Choices
