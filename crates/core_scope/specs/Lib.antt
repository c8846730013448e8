pub mod Degrees
pub mod ScopeFaults
pub mod ScopeWalk
