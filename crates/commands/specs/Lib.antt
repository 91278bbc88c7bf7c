-- A tile's commands: how they run, and what they do to a pixel. Definitions only.
pub mod Numbers
pub mod Moves
pub mod Pixel
pub mod Alike
pub mod Move
