-- The laws and proofs of `logic`.
pub mod Readies
-- Bit by bit: not, and, or, xor
pub mod Bitwise
pub mod Letters
pub mod BitwiseResults
-- Moving bits: copy, shl, lshr, ashr, rotl, extract, concat, zext, sext
pub mod Moving
pub mod Sources
pub mod Rotations
pub mod Planes
-- Tests: eq, ult, slt
pub mod Tests
pub mod Equality
pub mod Orders
pub mod Signed
pub mod SignedOrder
pub mod Comparisons
-- Choice: ite
pub mod Choosing
