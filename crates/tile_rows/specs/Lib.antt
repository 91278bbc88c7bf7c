-- A segment's rows in a tile, for the functions alone: no promise leans on these. Definitions only.
--     Rows   all rows of a segment at once
--     Own    the rows that a segment has nothing for
pub mod Rows
pub mod Own
