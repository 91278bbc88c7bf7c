-- What the numbers that `sizes` tells are worth. docs/THEOREMS.md, "Sizes".
--     Checks  the checks of what is lent answer 1 to 4
--     Steps   a line that is taken makes a reference for each of its steps
--     Told    what an answer says
--     Same    the references told are those that counting makes
--     Room    a count and a frame over such room are never refused with 9
--     Jumps   how many fresh regions a tile's list takes at most
--     Grid    how many tiles of a box lie on a screen
--     Lists   lists over such words are never refused with 9
--     Tiles   the tiles told suffice for the paths, and no fewer do
--     Exact   exact at the call: each way in which it ends, with its ground; one answer only
pub mod Checks
pub mod Steps
pub mod Told
pub mod Same
pub mod Room
pub mod Jumps
pub mod Grid
pub mod Lists
pub mod Tiles
pub mod Exact
