-- Whole floats, and the numbers that a line starts from. Definitions only.
pub mod Whole
pub mod Reach
