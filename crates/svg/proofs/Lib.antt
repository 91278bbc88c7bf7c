pub mod Answers
pub mod Tokens
pub mod Readings
pub mod Exact
pub mod Examples
