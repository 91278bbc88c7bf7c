-- The words of a frame. Definitions only.
pub mod Frame
pub mod Framed
