-- Whole numbers by the bits of floats. Definitions only.
pub mod Bits
