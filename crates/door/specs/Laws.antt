-- The laws of this crate's definitions. Assumes nothing.
pub mod Exactly
pub mod Handed
pub mod SignedHanded
pub mod Runs
