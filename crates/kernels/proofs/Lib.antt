-- The laws and proofs of `kernels`.
pub mod Dispatch
pub mod KindDispatch
