-- Which files are read, and what the reader does. Definitions only.
pub mod Bytes
pub mod Header
pub mod Read
pub mod Held
pub mod Grammar
pub mod Number
pub mod Head
pub mod Answer
