-- The new lines of a recount. Definitions only.
pub mod Own
pub mod Recounted
