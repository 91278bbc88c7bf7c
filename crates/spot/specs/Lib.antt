-- A line within one tile. Definitions only.
--     Spot    what is said of such a line
--     Tests   the tests by which it is found; for proofs
pub mod Spot
pub mod Tests
pub mod Place
