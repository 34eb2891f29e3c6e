-- What an opening says of its record. Assumes nothing.
pub mod Linked
