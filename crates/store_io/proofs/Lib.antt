mod Alike
mod Changed
mod Loaded
mod Put
mod Rooms
