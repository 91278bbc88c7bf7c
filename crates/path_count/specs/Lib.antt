-- Counting. Definitions only.
--     Count   a batch, a call; what a line comes to is said in `walked_lines`
--     Runs    how a batch asks for runs of lines that each lie within one tile, and a batch by its lines' numbers; only proofs lean on it
pub mod Count
pub mod Runs
pub mod Counted
