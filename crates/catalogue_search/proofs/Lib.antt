-- What the code of `lookup` is. Assumes nothing.
pub mod Fitting
pub mod Searched
