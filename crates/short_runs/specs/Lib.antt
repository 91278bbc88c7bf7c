-- A run of lines that each lie within one tile. Definitions only; only proofs lean on them: no promise of a public call does.
pub mod Ones
