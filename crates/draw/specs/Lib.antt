-- One call from lines to pixels. Definitions only.
pub mod Draw
