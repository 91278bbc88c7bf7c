pub mod Ranges
pub mod Screens
