-- What a line asks of the module. Assumes nothing.
pub mod Calls
pub mod Told
pub mod Telling
