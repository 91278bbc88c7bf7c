-- A tile's sides in pixels. Definitions only.
pub mod Tile
