-- The definitions of `vectors`.
pub mod Lists
pub mod Row
pub mod Packed
pub mod OutputBits
pub mod Choice
pub mod Best
pub mod Hull
