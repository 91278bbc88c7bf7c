-- A step's tests by the box's edges as floats. Assumes nothing.
pub mod Zeros
pub mod Sides
