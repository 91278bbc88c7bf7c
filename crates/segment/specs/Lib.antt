-- A step's piece of its line, clipped to its tile. Definitions only.
pub mod Piece
pub mod Clips
pub mod Page
pub mod By
