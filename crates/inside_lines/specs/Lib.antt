-- A line inside its path's box. Definitions only; only proofs lean on them: no promise of a public call does.
pub mod Direct
