-- Laws of the clipping.
--     Laws     what is left of a walk
--     Unclipped   a walk within its box
--     Traces   the rules' traces, computed
pub mod Laws
pub mod Unclipped
pub mod Traces
