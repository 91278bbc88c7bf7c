-- A reference of a line that lies within one tile. Definitions only; only proofs lean on them: no promise of a public call does.
--     Inside, Held   what its functions find
--     Short          what they say of it
pub mod Inside
pub mod Held
pub mod Short
