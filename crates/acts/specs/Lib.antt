-- Acts of a line over the tiles and references lent. Definitions only.
pub mod Acts
pub mod Rows
pub mod Line
