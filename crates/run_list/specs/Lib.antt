-- How far a tile's commands were carried out. Definitions only.
pub mod Stopped
pub mod Stop
