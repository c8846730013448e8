pub mod Modules
pub mod Fitting
pub mod LawfulSteps
pub mod LawfulMeanings
