-- How much lines and paths need. Definitions only.
--     Refs    the references that counting makes of the lines
--     Words   the tiles of the paths, and command words for a screen
--     Sizes   the call
pub mod Refs
pub mod Words
pub mod Sizes
pub mod RefsMade
pub mod Measured
