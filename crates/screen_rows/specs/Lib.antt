-- A screen tile's rows: where they lie, and what they show. Definitions only.
pub mod Rows
