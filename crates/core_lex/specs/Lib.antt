pub mod LexerState
pub mod TokenLaws
pub mod Tokens
