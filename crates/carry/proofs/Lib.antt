-- Laws of what tiling has at hand of a step. Assumes nothing.
--     CarryLaws   what is carried from a step is the next step's
--     Corners     a step's column and row as floats, with no cast and back
pub mod CarryLaws
pub mod Corners
