pub mod OneWayLaws
pub mod FrameLaws
pub mod RunLaws
pub mod NotingLaws
pub mod EntryLaws
