-- The laws and proofs of `printing`.
pub mod Puts
pub mod PutWords
pub mod PutLines
