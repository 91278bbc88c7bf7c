-- The paths of a row and of a block of columns. Definitions only.
pub mod Near
