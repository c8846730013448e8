pub mod TwosComplement
pub mod Builtins
pub mod Kinds
pub mod BuiltinAnswer
pub mod TermTests
pub mod View
