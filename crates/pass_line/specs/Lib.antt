pub mod CompileCorrect
pub mod Compiled
pub mod PlainCode
pub mod PlainModule
pub mod PlainText
