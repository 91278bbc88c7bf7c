-- The boxes of paths, from their lines. Definitions only.
--     Boxed   what the call answers
--     Boxes   what a reader must believe: the call
pub mod Boxed
pub mod Boxes
