-- The proofs of this crate. Assumes nothing.
pub mod Turns
