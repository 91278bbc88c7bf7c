-- The words of the panel. Definitions only.
pub mod Limits
pub mod Refusals
pub mod Widths
pub mod Kinds
pub mod Checks
pub mod Paths
pub mod Lines
pub mod Refs
pub mod Paints
pub mod Slots
pub mod Signed
pub mod Segments
pub mod Pieces
pub mod Verdict
pub mod Answer
