pub mod Sorts
pub mod TokenKinds
pub mod Beginnings
pub mod Reactions
pub mod Shallow
pub mod Judged
