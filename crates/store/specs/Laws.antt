-- The laws of this crate's definitions, which other crates cite. Assumes nothing.
pub mod Elements
pub mod Files
pub mod Whole
