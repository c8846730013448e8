pub mod Values
pub mod Making
pub mod Steps
pub mod Building
pub mod SmallTexts
