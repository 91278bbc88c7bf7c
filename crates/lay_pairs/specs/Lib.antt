-- How a tile's pairs are laid out in words. Definitions only.
--     Layout   which words go where
--     Slots    whether FILLs' slots fit
--     Room     the room that a pen has; only proofs lean on it
pub mod Layout
pub mod Slots
pub mod Room
