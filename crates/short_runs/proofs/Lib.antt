-- Laws of a line within one tile, and of a run of such lines. Assumes nothing.
pub mod Ones
