-- What the proofs of the crate's functions share.
pub mod InFloats
