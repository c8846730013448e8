pub mod WrittenTree
pub mod Standing
pub mod Signs
pub mod ConstantTerms
pub mod ModuleOf
pub mod Texts
pub mod Examples
