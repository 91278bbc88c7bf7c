-- Laws of pairs laid out, that the functions' proofs and the list writer's cite. Assumes nothing.
pub mod SizeLaws
pub mod LayLaws
