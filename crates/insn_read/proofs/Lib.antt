mod Distinct
mod Listed
mod OpcodeArms
mod OpcodeNames
