pub mod Closing
pub mod Cut
pub mod Numbers
pub mod Scanning
pub mod Sizes
