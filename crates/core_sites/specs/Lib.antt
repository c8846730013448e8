pub mod Things
pub mod Gathering
pub mod Listing
