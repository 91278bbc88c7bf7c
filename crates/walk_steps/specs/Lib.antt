-- The steps of a walk, checked and written. Definitions only; only proofs lean on them: no promise of a public call does.
pub mod Checks
pub mod Seen
pub mod Noted
