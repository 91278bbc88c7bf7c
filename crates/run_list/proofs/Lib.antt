-- The laws that the run of a list cites. Assumes nothing.
pub mod Lasts
