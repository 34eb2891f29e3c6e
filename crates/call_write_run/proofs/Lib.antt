-- Laws that the proofs of the code share. Assumes nothing.
pub mod Own
pub mod Judged
pub mod Steps
pub mod Drops
pub mod Turns
pub mod Going
