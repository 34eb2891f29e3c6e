-- Laws that the proofs of the code share. Assumes nothing.
pub mod Runs
pub mod Search
pub mod Scan
