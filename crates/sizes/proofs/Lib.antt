-- What the proofs of this crate share.
pub mod RefLaws
pub mod WordLaws
pub mod CallLaws
