-- Laws that the proofs share. Assumes nothing.
pub mod Digits
pub mod Rows
pub mod Listed
