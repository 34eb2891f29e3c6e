-- What sound records and openings say, the cells of their lists, and the marks of a pass over the lists. Assumes nothing.
pub mod FieldCells
pub mod ListCells
pub mod ListFacts
pub mod Marks
pub mod Rows
pub mod Shared
pub mod Passed
pub mod DistinctBy
