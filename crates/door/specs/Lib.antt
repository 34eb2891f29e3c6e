-- What a caller in C or Rust is handed. Assumes nothing.
pub mod Handed
pub mod SignedHanded
pub mod Version
pub mod Runs
pub mod Laws
