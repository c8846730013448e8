pub mod Called
pub mod Matched
pub mod SameBehaviour
pub mod Realizes
pub mod MachineTarget
pub mod FunctionsGiveModule
pub mod PlainModules
