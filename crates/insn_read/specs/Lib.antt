pub mod OpcodeFamilies
pub mod OpcodeReading
