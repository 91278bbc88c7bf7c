-- A run of references of one line. Definitions only; only proofs lean on them: no promise of a public call does.
pub mod Runs
