-- The laws of this crate's definitions, which other crates cite. Assumes nothing.
pub mod Ahead
pub mod Bits
pub mod Whole
