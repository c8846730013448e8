pub mod Actions
pub mod ActionView
pub mod Command
pub mod CompileAnswers
pub mod Headline
pub mod Answers
pub mod Lines
pub mod Notes
