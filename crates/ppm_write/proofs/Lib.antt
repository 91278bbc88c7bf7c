-- The writer's laws: decimal numbers, and runs of stores.
pub mod Decimal
pub mod Stores
pub mod Puts
pub mod Answers
