mod Cuts
mod Faults
pub mod Truths
pub mod TokenTests
pub mod Fronts
mod Opens
pub mod Parts
mod Least
mod Bits
pub mod Overs
pub mod Plans
pub mod Stacks
pub mod Sound
pub mod Complete
pub mod Steps
pub mod Annotated
pub mod Trees
pub mod Constants
pub mod Bodies
pub mod Quick
mod Ways
mod TreeWays
mod ClauseWays
mod ConstantWays
mod PartWays
pub mod Tracks
mod OneTree
pub mod Answering
mod Computed
mod Depths
