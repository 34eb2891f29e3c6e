-- Numbers by a row of cells. Assumes nothing.
pub mod Numbers
