pub mod PrintedModule
pub mod Literals
pub mod Examples
