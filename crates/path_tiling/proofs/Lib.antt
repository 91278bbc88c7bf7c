-- What the proofs of the crate's functions share, and the crate's laws.
pub mod RangeLaws
pub mod RunLaws
pub mod NextLaws
pub mod CallLaws
pub mod WriteLaws
pub mod Traces
