pub mod Backdrop
pub mod Calm
