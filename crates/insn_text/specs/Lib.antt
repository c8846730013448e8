pub mod Rows
pub mod Literals
