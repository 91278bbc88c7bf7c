-- Laws of a line inside its path's box.
--     NotBelow   what is not below a number is not below what that number is not below
--     Places     an end's floats, by their place
--     Compared   what the box's comparisons tell
--     InReach    so the line passes the check of a coordinate
--     InBoxes    so the line's walk is not clipped
pub mod NotBelow
pub mod Places
pub mod Compared
pub mod InReach
pub mod InBoxes
