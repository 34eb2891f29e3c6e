-- What the code of this crate does. Assumes nothing.
pub mod Turns
pub mod Made
