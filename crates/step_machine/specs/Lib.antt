pub mod Steps
pub mod RunFacts
pub mod Bodies
pub mod EntryBound
pub mod Follows
pub mod Frames
pub mod FrameFacts
