-- What the code of `rename` is. Assumes nothing.
pub mod Renamed
