-- The laws and proofs of `bits`.
pub mod Bools
pub mod Bits
pub mod Below
pub mod Shifts
pub mod SameBits
pub mod Constants
pub mod Numbers
pub mod Carries
pub mod Counts
pub mod Reversed
pub mod Listed
pub mod Words
pub mod LowestBit
