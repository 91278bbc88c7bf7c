-- The words of the theorems on the check of another's tables. Definitions only.
--     Ways    the ways in which the call ends
--     Good    what a yes says
--     Order   references in another order
--     Stray   no stray piece over another's tables
pub mod Ways
pub mod Good
pub mod Order
pub mod Stray
