pub mod Agreeing
pub mod SameSteps
pub mod Congruences
pub mod Steady
pub mod Proper
mod Examples
mod Checked
