-- The walk of a line. Definitions only.
--     Num     casts to a number from 0 up
--     Page    the walk's numbers on one page, beside path_count.rs: this is promised
--     Setup   the same by stages, for proofs
--     Skip    the skip rules
--     Step    a step's tile
--     Lent    a line as it is lent: what is refused, skipped or walked
--     Around   the tile edges around a line, taken once; for proofs
pub mod Num
pub mod Setup
pub mod Page
pub mod Skip
pub mod Step
pub mod Lent
pub mod Around
pub mod Stepped
pub mod Walked
