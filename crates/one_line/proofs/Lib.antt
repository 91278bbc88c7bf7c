-- Laws of a line by the ways that it can go. Assumes nothing.
pub mod Ways
