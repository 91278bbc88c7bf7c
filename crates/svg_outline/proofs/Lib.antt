pub mod Pieces
pub mod Draws
pub mod Texts
pub mod Examples
