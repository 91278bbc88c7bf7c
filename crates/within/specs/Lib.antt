-- A line inside its path's box as it is lent. Definitions only; only proofs lean on them: no promise of a public call does.
pub mod Within
pub mod Found
