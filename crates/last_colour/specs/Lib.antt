-- A colour laid over a row as it is packed. Definitions only.
pub mod Last
