-- What a cell of an opening answers. Assumes nothing.
pub mod Told
