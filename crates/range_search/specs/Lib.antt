-- The definitions of `range_search`.
pub mod Extremes
pub mod Range
pub mod Encoding
