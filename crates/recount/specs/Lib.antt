-- The words of a recount. Definitions only.
pub mod Recount
