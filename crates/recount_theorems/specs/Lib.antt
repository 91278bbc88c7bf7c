-- What the theorems of a recount speak of. Definitions only.
pub mod Lines
pub mod Refusing
pub mod Ways
