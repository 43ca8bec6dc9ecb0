-- The laws and proofs of `needs`.
pub mod Walks
pub mod StoreRules
pub mod Rules
pub mod KeptRuns
pub mod Answers
pub mod Marks
pub mod RowWords
pub mod Taken
