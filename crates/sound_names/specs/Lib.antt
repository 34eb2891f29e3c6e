-- Names as numbers. Assumes nothing.
pub mod Keys
