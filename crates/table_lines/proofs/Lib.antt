-- The laws and proofs of `table_lines`.
pub mod Surveys
pub mod FillRows
pub mod RowBytes
pub mod FillRecords
pub mod PrintLines
