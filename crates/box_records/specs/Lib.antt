-- Boxes and their records. Definitions only.
--     Records   what a reader must believe: a box's tiles, and records one after another
--     Told      the box that the working room tells of; no promise of a call cites it
pub mod Records
pub mod Told
