-- What lines of histories ask for. Assumes nothing.
pub mod Spelling
pub mod Buffers
pub mod Naming
pub mod Signing
