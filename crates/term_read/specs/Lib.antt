pub mod Lexemes
pub mod TermGrammar
pub mod BitParts
pub mod Reading
pub mod WholeText
pub mod Printed
