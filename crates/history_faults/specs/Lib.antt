-- The parts of a text. Assumes nothing.
pub mod Parts
