-- Laws of whole numbers by the bits of floats.
--     Shifted   what x + 3 * 2 ^ 22 is, rounded: a whole number, its bits, and x's floor by them
--     Steps     `bits_of` by two natural numbers, for `omega`; floats that are small enough
pub mod Shifted
pub mod Steps
