pub mod Outline
pub mod Tokens
pub mod Strokes
pub mod Counts
pub mod Sum
