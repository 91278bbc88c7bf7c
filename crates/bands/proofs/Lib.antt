pub mod BandLaws
pub mod Windows
pub mod Cutting
