-- What one reference comes to. Definitions only.
--     Looked  what it comes to, in these words
--     Look    by its words, its line and its tile
--     Carry   by the z's that are carried; only proofs lean on it
--     One     the segments and tags after it; only proofs lean on it
pub mod Looked
pub mod Look
pub mod Carry
pub mod One
