-- The walk clipped to a box. Definitions only.
--     Page   on one page, beside path_count.rs: this is promised
--     Clip   the same by stages, for proofs
pub mod Clip
pub mod Page
