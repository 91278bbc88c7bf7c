-- One pixel of a tile. Definitions only.
--     Place      which pixel of a tile it is, and refusal 19
--     Answers    what the answers are on paper
--     Coverage   the call for its coverage
--     Held       its area and its colour, as code holds them between two commands
--     Colour     the call for its colour under a tile's list of commands
--     Shares     what a segment adds, apart from the sum; for proofs
--     Like       what fill and fine say of the same pixel, for the theorems
pub mod Place
pub mod Answers
pub mod Coverage
pub mod Held
pub mod Colour
pub mod Shares
pub mod Like
pub mod Covered
pub mod Coloured
