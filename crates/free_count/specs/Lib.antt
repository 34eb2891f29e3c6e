-- Free segments by the lists of the tables. Assumes nothing.
pub mod Any
pub mod Rows
pub mod Lists
