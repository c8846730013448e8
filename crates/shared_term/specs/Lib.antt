pub mod View
pub mod Parts
pub mod Comparing
pub mod Octets
pub mod Places
