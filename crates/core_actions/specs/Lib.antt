pub mod Read
pub mod Joining
pub mod Binaries
pub mod ReadLaws
pub mod SoundTerms
pub mod SegmentBits
pub mod View
