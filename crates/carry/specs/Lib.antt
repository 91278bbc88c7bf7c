-- The z's that tiling carries from step to step. Definitions only.
pub mod Carry
