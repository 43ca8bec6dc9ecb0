-- The definitions of `wide_products`.
pub mod Apart
