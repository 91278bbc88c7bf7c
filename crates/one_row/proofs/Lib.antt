-- What holds of one segment in one row. Assumes nothing.
pub mod Vertical
