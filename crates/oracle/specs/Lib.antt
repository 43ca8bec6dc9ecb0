-- The definitions of `oracle`.
pub mod Sizes
