pub mod Traces
pub mod TraceLaws
pub mod TracedRun
pub mod Examples
