-- What the paths put on a screen tile. Definitions only.
pub mod Pairs
pub mod Lent
pub mod Ready
pub mod Put
