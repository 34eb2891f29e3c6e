-- A closed entry's cells, and the code's order of the tests. Assumes nothing.
pub mod Closed
pub mod Opened
