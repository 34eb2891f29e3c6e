-- What the code of `store` is. Assumes nothing.
pub mod Cells
pub mod Segments
