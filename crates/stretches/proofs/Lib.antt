-- Laws of a stretch of lines. Assumes nothing.
pub mod StretchLaws
