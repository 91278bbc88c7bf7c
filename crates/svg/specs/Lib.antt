pub mod Lines
pub mod Ways
pub mod Answer
