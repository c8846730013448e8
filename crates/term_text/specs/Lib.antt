pub mod Decimal
pub mod Atoms
pub mod TermText
pub mod Printing
