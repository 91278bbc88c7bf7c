-- The range of a path that is counted again. Definitions only.
pub mod Kept
