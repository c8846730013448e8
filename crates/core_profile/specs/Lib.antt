pub mod ProfileFaults
pub mod ProfileWalk
pub mod LimitFaults
pub mod LimitWalk
pub mod Counted
pub mod LawfulText
