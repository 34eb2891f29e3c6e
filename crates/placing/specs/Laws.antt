-- The laws of this crate's definitions, which other crates cite. Assumes nothing.
pub mod Sized
pub mod Held
pub mod Tests
pub mod Whole
