pub mod Laws
pub mod KeyLaws
pub mod AllThere
