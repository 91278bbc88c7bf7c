-- Points, spans and the constants of util.rs. Definitions only.
pub mod Constants
pub mod Vec
pub mod Span
