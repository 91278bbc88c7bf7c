pub mod Places
pub mod Flats
