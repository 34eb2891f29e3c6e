-- The proofs of this crate. Assumes nothing.
pub mod Sorting
pub mod Planned
