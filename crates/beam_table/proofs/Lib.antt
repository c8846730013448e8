pub mod Walk
pub mod StepLaws
pub mod LocalCalls
mod Examples
mod SmallRuns
mod WholePrograms
mod FurtherRuns
mod BadRuns
mod OpcodeRows
