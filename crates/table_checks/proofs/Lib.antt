-- The laws and proofs of `table_checks`.
pub mod HeadBody
pub mod Counts
