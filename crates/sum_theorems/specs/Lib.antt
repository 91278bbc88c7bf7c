-- The words of the theorems on summed areas. Definitions only.
pub mod Sums
