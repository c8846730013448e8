pub mod SameRun
pub mod Lawful
pub mod InModule
pub mod PassContract
