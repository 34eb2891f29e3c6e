-- Laws that the proofs share. Assumes nothing.
pub mod Names
pub mod Rows
