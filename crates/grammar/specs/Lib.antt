-- The definitions of `grammar`.
pub mod Limits
pub mod Lists
pub mod Words
pub mod Print
pub mod Cut
pub mod Line
pub mod Lines
pub mod Form
