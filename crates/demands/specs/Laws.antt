-- The laws of this crate's definitions, which other crates cite. Assumes nothing.
pub mod Unsound
pub mod History
pub mod Hearing
pub mod Woven
