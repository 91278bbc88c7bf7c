-- The columns that a narrow part is divided by. Definitions only.
pub mod Narrow
