-- The laws of this crate's definitions, which other crates cite. Assumes nothing.
pub mod Fields
pub mod Whole
