-- What the proofs of the crate's functions share, and the crate's laws.
pub mod Page
pub mod Within
pub mod By
pub mod Holds
