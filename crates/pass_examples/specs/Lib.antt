pub mod SmallPath
pub mod WholePath
pub mod Refused
pub mod MarkRoom
pub mod UpdatingGuard
