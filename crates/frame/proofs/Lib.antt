-- What the proofs of a frame share.
--     KindLaws    an answer on paper is one answer's
--     AllLines    how far lines need be counted
--     FrameLaws   a frame by what its stages answer
pub mod KindLaws
pub mod AllLines
pub mod FrameLaws
