-- The definitions of `vector_calls`.
pub mod Calls
pub mod Witnesses
pub mod Ranges
pub mod RangeRuns
pub mod Model
