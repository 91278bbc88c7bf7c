-- Laws of a segment's rows, that the functions' proofs and those of one_segment cite. Assumes nothing.
pub mod RowsLaws
pub mod OwnLaws
