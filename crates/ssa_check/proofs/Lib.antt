pub mod Certified
mod Examples
