-- The definitions of `rifflerleek`.
pub mod Host
