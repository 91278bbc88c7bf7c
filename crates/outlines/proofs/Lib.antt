pub mod Lasts
pub mod Heads
pub mod Turns
pub mod Least
pub mod Opens
pub mod Steps
pub mod CallLaws
