-- What is done when a file is closed. Assumes nothing.
pub mod Carried
