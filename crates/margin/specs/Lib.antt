-- A box with a margin around a line. Definitions only.
pub mod Room
