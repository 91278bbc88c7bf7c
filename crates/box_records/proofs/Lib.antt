-- Laws of boxes and their records. Assumes nothing.
--     BoxLaws    the tiles of the box that the working room tells of
--     RowLaws    records one after another, and sums of tiles
pub mod BoxLaws
pub mod RowLaws
