pub mod Same
pub mod Sums
pub mod AsMany
pub mod Rows
pub mod Exact
pub mod Cheats
pub mod Instances
