-- Laws of a line that lies within one tile, tiled without its walk. Assumes nothing.
pub mod ShortLaws
