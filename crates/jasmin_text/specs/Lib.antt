pub mod Places
pub mod Numbers
pub mod Pieces
pub mod Texts
pub mod Cutting
pub mod Spans
