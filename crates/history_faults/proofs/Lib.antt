-- Proofs about the parts of a text. Assumes nothing.
pub mod Cuts
