-- Lines, before boxes are made from them. Definitions only.
--     Lines   what a reader must believe: the tile of an end, and what is asked of a line
pub mod Lines
