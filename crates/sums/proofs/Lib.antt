-- The laws and proofs of `sums`.
pub mod CarryIn
pub mod Covered
pub mod Complements
pub mod Sums
pub mod Kernels
pub mod AsSums
pub mod Cuts
pub mod Results
pub mod Rule
