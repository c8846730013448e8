pub mod Answers
pub mod Endless
