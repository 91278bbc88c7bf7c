-- The arms of one row. Assumes nothing.
pub mod Arms
