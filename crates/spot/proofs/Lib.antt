-- That a line which passes the tests lies within one tile.
--     InTile    floats strictly between a whole number and the next
--     Guess     the whole number that is tried, and what the comparisons tell of two floats
--     InBox     its tile is in the box, so nothing has wrapped
--     Apart     how far two such floats are apart, either way round
--     Slope     a, b and z of a line between such floats
--     OneStep   its step, on that tile
--     NoClip    it isn't skipped, and isn't clipped
--     Spots     all of it, for a line by its ends as they are lent
pub mod InTile
pub mod Guess
pub mod InBox
pub mod Apart
pub mod Slope
pub mod OneStep
pub mod NoClip
pub mod Spots
