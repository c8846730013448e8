pub mod PiecesState
pub mod Places
pub mod Utf8Text
