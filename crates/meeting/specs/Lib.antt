-- The first of a row that fails a test, and the first range that meets an earlier one.
--     First     the least number that passes a test, by looking at one after another
--     Meeting   when two ranges meet, and the first range that meets an earlier one
--     Found     what the functions tell each other; only proofs lean on it
pub mod First
pub mod Meeting
pub mod Found
