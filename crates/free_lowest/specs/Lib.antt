-- What the search for the lowest free segment goes through. Assumes nothing.
pub mod Held
pub mod Round
pub mod Run
