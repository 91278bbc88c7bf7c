-- Laws of a line within one tile as it is counted. Assumes nothing.
--     Ones   paths that passed their checks; what the tests of its tile and of the room tell
pub mod Ones
