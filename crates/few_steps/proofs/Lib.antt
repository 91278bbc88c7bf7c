-- Laws of a line of few steps, counted as it goes and taken back. Assumes nothing.
pub mod Fews
