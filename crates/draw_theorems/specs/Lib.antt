-- The words of the theorem on a drawing. Definitions only.
pub mod Drawing
