-- A band of the screen, and bands one below the other. Definitions only.
pub mod Bands
pub mod Cuts
