-- The words of the theorems on whole calls. Definitions only.
--     Cheats    the cheats that a promise must shut out
--     Ways      the ways in which each call ends
--     BandWays  the same of a band of the screen
--     Tagged    a FILL's slots and their tags
pub mod Cheats
pub mod Ways
pub mod BandWays
pub mod Tagged
