-- The P6 file of a picture, and what the writer does. Definitions only.
pub mod Bytes
pub mod File
pub mod Write
pub mod Written
