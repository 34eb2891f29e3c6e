-- What the rules see of the catalogue, by cells. Assumes nothing.
pub mod Places
pub mod Entries
pub mod Determined
