-- Keys of names. Assumes nothing.
pub mod Keys
