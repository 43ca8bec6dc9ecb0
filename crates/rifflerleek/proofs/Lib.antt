-- The laws and proofs of `rifflerleek`.
pub mod Hosted
pub mod Numbered
pub mod HostRanges
pub mod HostLeaves
pub mod HostResets
pub mod HostClocks
pub mod HostPrunes
pub mod Runs
pub mod Starts
