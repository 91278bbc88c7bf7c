-- Laws of the paths kept, that the functions' proofs and the list writer's cite. Assumes nothing.
pub mod NearLaws
