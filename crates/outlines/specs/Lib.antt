-- Whether lines make closed outlines.
--     Outlines   a path's lines, its outlines, and the first line after which one stands open
--     Call       what is checked first, and the call's promise
--     Told       what the functions tell each other; only proofs lean on it
pub mod Outlines
pub mod Call
pub mod Told
