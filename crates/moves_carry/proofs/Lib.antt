-- The proofs of this crate. Assumes nothing.
pub mod Turns
pub mod Fields
pub mod Row
pub mod Records
