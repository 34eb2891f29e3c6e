-- Laws that the proofs of the code share. Assumes nothing.
pub mod Cells
pub mod Marks
