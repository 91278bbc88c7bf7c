-- What closed outlines are worth.
--     Closed     lines that the call passes
--     Crossings  lines of a path that start or end on a side
--     Marks      lines that mark a tile row as their ends say
--     Ways       how the call can end
pub mod Closed
pub mod Crossings
pub mod Marks
pub mod Ways
