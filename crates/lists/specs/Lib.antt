-- List theory with no panel in it: definitions, and beside each its laws.
pub mod Run
pub mod Sums
pub mod Occ
pub mod Tally
pub mod Cells
pub mod Order
pub mod Grid
pub mod GridLaws
