-- Ranges of lists. Definitions only.
pub mod Ranges
