pub mod Words
pub mod Loops
pub mod ListedItems
pub mod Kept
pub mod Heads
pub mod Normals
