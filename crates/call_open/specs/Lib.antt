-- What is known when a file is opened. Assumes nothing.
pub mod Ways
pub mod Vacant
