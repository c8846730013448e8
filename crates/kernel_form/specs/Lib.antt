pub mod Kernel
pub mod View
pub mod Apart
pub mod Chains
