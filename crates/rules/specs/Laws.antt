-- The laws of this crate's definitions, which other crates cite. Assumes nothing.
pub mod Gates
pub mod Opened
pub mod Acts
pub mod Readable
pub mod Refusals
