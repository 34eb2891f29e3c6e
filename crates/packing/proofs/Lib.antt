-- What the code of `packing` is. Assumes nothing.
pub mod Shifts
