pub mod Decimal
pub mod Names
pub mod Quoting
pub mod Sizes
pub mod Values
