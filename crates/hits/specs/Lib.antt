-- Where the steps of a walk fall. Definitions only.
--     Steps   the tile of a step, and whether it marks
--     Notes   the words that note steps; only proofs lean on it
pub mod Steps
pub mod Notes
