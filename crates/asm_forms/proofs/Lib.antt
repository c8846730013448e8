mod Examples
mod Faults
mod PrintedLines
mod PrintedModules
mod PrintedRanges
mod PrintedTexts
