-- The laws and proofs of `tables`.
pub mod Fits
pub mod PutAll
pub mod Steps
pub mod Points
pub mod Demand3
pub mod Counts
pub mod Lists
pub mod Known
pub mod NamedRows
pub mod StepLaws
pub mod StretchLaws
pub mod RunLaws
pub mod FullRuns
