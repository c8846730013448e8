pub mod Realizing
pub mod Whole
pub mod Bridge
pub mod Entering
pub mod Modules
pub mod Calling
pub mod Small
mod Controls
mod Keys
mod PlainRuns
mod PlainMeaning
mod PlainModules
mod PlainValid
