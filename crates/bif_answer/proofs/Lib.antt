mod Fitting
mod Plain
mod Narrow
mod Readings
mod Names
mod Powers
mod Args
mod Folding
