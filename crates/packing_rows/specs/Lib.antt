-- Rows of cells and of numbers, as one number. Assumes nothing.
pub mod Waiting
pub mod Cells
pub mod Pack
pub mod Longer
pub mod Whole
pub mod Two
pub mod Zeros
