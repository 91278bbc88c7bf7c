-- A screen tile: what its commands leave on the screen. Definitions only.
pub mod Tile
