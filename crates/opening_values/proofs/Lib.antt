-- The laws that the proofs of the code cite. Assumes nothing.
pub mod Values
