pub mod MoreBlocks
mod Rank
mod OpenHandlers
mod Spending
pub mod Moves
mod Eases
mod OpSteps
mod ChainSteps
mod BlockSteps
mod Turns
mod Cycles
mod SpotHandlers
pub mod RunsEnd
pub mod StateOps
pub mod StateRuns
pub mod OneResult
mod WholeBodies
mod LiveSteps
pub mod TwoStorages
pub mod TwoRules
pub mod TwoTerms
pub mod TwoDoes
pub mod OneStorage
pub mod TwoRuns
pub mod TwoBlocks
pub mod VarLists
mod TwinChains
mod TwinEntries
mod TwinRuns
pub mod Numbered
mod Bodies
mod SmallRuns
mod SpotRuns
mod Rows
mod SmallestBody
