-- The lists and the pixels, over what a frame left. Definitions only.
pub mod Paint
pub mod Drawn
pub mod Parts
