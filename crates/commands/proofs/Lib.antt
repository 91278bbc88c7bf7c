pub mod Acts
pub mod Traced
pub mod AlikeLaws
pub mod Encoded
pub mod Signs
