pub mod FirstLaws
pub mod Stores
pub mod Windows
pub mod WorkLaws
