pub mod Causes
pub mod Files
pub mod Slots
pub mod Sinks
pub mod Faulty
pub mod Real
