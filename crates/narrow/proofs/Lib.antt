-- Laws of narrow parts, that the functions' proofs and those of one_segment cite. Assumes nothing.
pub mod NarrowLaws
