-- The words of the theorems on calls whose lines lie in boxes with a margin. Definitions only.
pub mod Fit
