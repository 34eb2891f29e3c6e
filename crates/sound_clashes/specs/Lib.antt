-- The keys of the records that the code has passed. Assumes nothing.
pub mod Halves
