-- The laws and proofs of `checks`.
pub mod Verdicts
pub mod Numbered
pub mod RowChecks
pub mod RecordChecks
pub mod Accepts
pub mod Rules
pub mod VerdictParts
pub mod Leaving
pub mod Words
pub mod Naming
pub mod Recording
pub mod Memory
