pub mod Room
pub mod Openings
pub mod Traces
