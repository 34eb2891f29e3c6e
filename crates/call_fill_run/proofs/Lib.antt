-- Laws that the proofs of the code share. Assumes nothing.
pub mod Nexts
pub mod Filling
pub mod Turns
pub mod Admits
