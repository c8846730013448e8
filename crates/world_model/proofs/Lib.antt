mod Asking
mod Receiving
