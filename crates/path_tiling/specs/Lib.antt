-- A segment for each reference of a range. Definitions only.
pub mod Tiling
pub mod Runs
