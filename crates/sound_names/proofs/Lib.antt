-- Laws that the proofs share. Assumes nothing.
pub mod Rows
pub mod Places
pub mod Stored
pub mod Shorts
