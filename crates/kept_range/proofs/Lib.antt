-- Laws of the range of a path that is counted again. Assumes nothing.
pub mod KeptLaws
