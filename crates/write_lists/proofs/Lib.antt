-- Laws that the functions' proofs cite, and an example, computed.
pub mod NearLaws
pub mod TileLaws
pub mod RegionLaws
pub mod Example
