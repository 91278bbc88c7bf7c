-- A line within one tile as it is counted. Definitions only; only proofs lean on them: no promise of a public call does.
pub mod One
pub mod TileFound
