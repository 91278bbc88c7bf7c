-- The picture as a function of the lines. Definitions only.
--     Picture   the picture that lines make, on one page
--     Shown     what the theorem says of calls that are done
--     Own       where a piece comes from
pub mod Picture
pub mod Shown
pub mod Own
