-- Laws of what a path puts on a tile, that the functions' proofs and the list writer's cite. Assumes nothing.
pub mod Signed
pub mod PairLaws
