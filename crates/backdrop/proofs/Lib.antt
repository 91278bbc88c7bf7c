pub mod RowLaws
pub mod CalmLaws
pub mod PathSums
pub mod CellLaws
