-- Laws of a recount's new lines. Assumes nothing.
--     OwnLaws      a new line, where it is of the path counted again and where it isn't
--     StretchLaws  a stretch of lines as a batch of counting's own
pub mod OwnLaws
pub mod StretchLaws
