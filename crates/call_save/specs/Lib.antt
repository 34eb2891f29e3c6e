-- What the contract of `saving` cites. Assumes nothing.
pub mod Saved
