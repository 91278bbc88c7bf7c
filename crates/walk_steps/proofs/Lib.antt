-- Laws of the checks of a walk's steps. Assumes nothing.
pub mod CheckLaws
