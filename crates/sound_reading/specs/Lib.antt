-- The cells of an opening and of its record as their fields. Assumes nothing.
pub mod Cells
