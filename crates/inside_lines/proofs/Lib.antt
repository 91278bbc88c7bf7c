-- Laws of a line inside its path's box: its outcome. Assumes nothing.
pub mod Directs
