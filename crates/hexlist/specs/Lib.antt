-- A text of hexadecimal words, and what a word stands for. Definitions only.
pub mod Text
pub mod Values
pub mod Rows
