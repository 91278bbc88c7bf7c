-- A line of few steps. Definitions only; only proofs lean on them: no promise of a public call does.
pub mod Few
pub mod Direct
