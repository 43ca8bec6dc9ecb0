-- The definitions of `table_lines`.
pub mod Fill
pub mod Print
