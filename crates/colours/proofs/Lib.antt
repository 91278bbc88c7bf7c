pub mod Bytes
pub mod Traces
pub mod LayerLaws
pub mod FlatLaws
