-- Laws that the proofs of the loops share. Assumes nothing.
pub mod Turns
pub mod Hits
