-- The laws and proofs of `pruning`.
pub mod BackTurns
pub mod MovedWords
pub mod MarkVerdicts
