-- Laws of a line's walk, its clip and its outcome. Assumes nothing.
pub mod Lines
