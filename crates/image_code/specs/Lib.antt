-- The widths of the image's fields, the lengths of its pieces, and pieces one after the other. Assumes nothing.
pub mod Widths
pub mod Fits
pub mod Lengths
pub mod Rows
pub mod Spare
pub mod Blank
pub mod Pieces
