pub mod Run
pub mod Tokens
