-- The laws and proofs of `rounds`.
pub mod Round
pub mod Counted
pub mod Clocks
pub mod Answers
pub mod PairTurns
pub mod RoundTurns
