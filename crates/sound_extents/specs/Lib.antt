-- An extent's facts; rows of cells as the fields of records and openings. Assumes nothing.
pub mod Extent
pub mod Numbers
pub mod Slices
