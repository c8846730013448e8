mod SmallPath
mod WholePath
mod Refused
mod MarkRoom
mod UpdatingGuard
mod Listed
mod FormedReceive
