-- Laws of acts. Assumes nothing.
pub mod Signs
pub mod Laws
pub mod Once
pub mod Lines
pub mod Whole
pub mod Plans
