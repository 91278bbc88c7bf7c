-- The edges of a path's box as floats. Definitions only.
pub mod Edges
