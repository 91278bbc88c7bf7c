-- A walk's steps in whole numbers. Definitions only; only proofs lean on them: no promise of a public call does.
--     Strides   where a step falls
--     Words     a step noted in one word
pub mod Strides
pub mod Words
pub mod Stride
pub mod Last
