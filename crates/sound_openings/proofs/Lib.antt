-- What the code of `sound_openings` is. Assumes nothing.
pub mod Contents
pub mod Titles
pub mod Entries
