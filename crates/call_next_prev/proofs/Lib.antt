-- Laws that the proofs of the code share. Assumes nothing.
pub mod Chains
pub mod Delivers
pub mod Calls
pub mod Steps
