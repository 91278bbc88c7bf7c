-- Colours, a pixel at a time. Definitions only.
pub mod Colour
pub mod Layer
