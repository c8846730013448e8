pub mod ListRows
mod TermForms
pub mod Words
