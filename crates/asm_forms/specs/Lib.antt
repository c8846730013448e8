pub mod FormParts
pub mod Stages
pub mod ModuleOfText
pub mod Lines
