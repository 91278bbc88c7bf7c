pub mod Past
pub mod Laws
pub mod Grounds
pub mod Crooked
pub mod Page
pub mod Bounds
pub mod Traces
