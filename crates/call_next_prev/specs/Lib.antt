-- The calls next and prev. Assumes nothing.
pub mod Reads
