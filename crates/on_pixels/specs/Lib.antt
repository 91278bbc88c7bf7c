-- Commands on one pixel for all. Definitions only.
pub mod One
