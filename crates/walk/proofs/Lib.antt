-- Laws of the walk.
--     Counts  a checked line's ends, and how many steps it has
--     Boxes   tiles in a box, and their numbers
--     Lines   the cases of a line as it is lent
--     StepTiles   a step's column and row in whole numbers
--     Tiles   no tile twice in a line, and one tile for counting and tiling
--     Walks   what is known of a line that is walked
--     Apart   how far one float is from another
--     AroundLaws  what the set-up of a line stands on
pub mod Counts
pub mod Boxes
pub mod Lines
pub mod StepTiles
pub mod Tiles
pub mod Walks
pub mod Apart
pub mod AroundLaws
