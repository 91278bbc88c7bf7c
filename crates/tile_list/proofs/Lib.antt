-- Laws of one tile's list, that the functions' proofs and the list writer's cite. Assumes nothing.
--     WeighLaws   its weight
--     RestLaws    what is left of it, laid out and written
pub mod WeighLaws
pub mod RestLaws
