pub mod Names
pub mod Lists
pub mod Ascii
pub mod formers
