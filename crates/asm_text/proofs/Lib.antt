pub mod ModuleLines
pub mod Rows
pub mod Labels
mod Examples
