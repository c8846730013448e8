pub mod Digits
pub mod Growth
mod Names
mod Walks
pub mod BitText
mod ListText
