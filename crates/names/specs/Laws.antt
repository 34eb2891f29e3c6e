-- The laws of this crate's definitions, which other crates cite. Assumes nothing.
pub mod Symbols
pub mod Used
pub mod Small
