-- Laws of a record's cells. Assumes nothing.
pub mod Unused
