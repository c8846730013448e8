pub mod Table
pub mod Readings
