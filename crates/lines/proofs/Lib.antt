-- The laws and proofs of `lines`.
pub mod Editions
pub mod Scans
pub mod Compare
pub mod Headers
pub mod KindNames
pub mod ReadNumbers
pub mod ReadRecords
pub mod ReadLines
pub mod OpLines
