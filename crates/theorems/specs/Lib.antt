-- The words of the theorems. Definitions only.
--     Drawn      a line apart from its place in the list, and what it does
--     Events     the references of lines, in order, apart from memory
--     Refs       references as they stand in memory; what counting all lines leaves; the sums
--     Stray      no stray piece
--     Framing    the ways in which a frame ends, and what stands then
--     Batches    lines, references and screen tiles cut into batches
--     Starred    the table of starred cases
--     Promises   the promises of the public calls, named
--     Refusing   the ground of each refusal
--     Commands   the same of a screen tile's commands
--     StepNumbers   why step numbers stay exact in a float
--     Margins    a line whose path's box has a margin around it
pub mod Drawn
pub mod Events
pub mod Refs
pub mod Stray
pub mod Framing
pub mod Batches
pub mod Starred
pub mod Promises
pub mod Refusing
pub mod Commands
pub mod StepNumbers
pub mod Margins
