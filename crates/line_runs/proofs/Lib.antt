-- Laws of a run of references of one line. Assumes nothing.
pub mod BeamLaws
pub mod RunLaws
