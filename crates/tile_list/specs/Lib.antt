-- One screen tile's list: what its functions tell each other. Only proofs lean on this. Definitions only.
pub mod Near
pub mod Weight
