-- Sizes and signs of floats. Definitions only.
pub mod Sizes
