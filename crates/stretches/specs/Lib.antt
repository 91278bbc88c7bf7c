-- A stretch of the lines lent to a recount. Definitions only; only proofs lean on them: no promise of a public call does.
pub mod Stretches
