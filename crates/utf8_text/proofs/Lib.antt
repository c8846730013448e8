pub mod Begun
pub mod Encoded
pub mod Fed
pub mod Fronts
pub mod Places
