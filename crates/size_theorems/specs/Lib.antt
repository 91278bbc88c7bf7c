-- The ways in which `sizes` can end. Definitions only.
pub mod Ways
