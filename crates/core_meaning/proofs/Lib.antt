mod Build
mod Clauses
mod Funs
mod Raises
mod Receives
mod MarkedReceives
mod Demands
mod Binaries
pub mod Rules
pub mod EveryRule
pub mod Kept
mod Longer
mod Depth
mod Bounds
mod Matching
mod Selecting
