pub mod Lasts
