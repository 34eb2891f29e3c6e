-- Laws that the proofs share. Assumes nothing.
pub mod Choices
