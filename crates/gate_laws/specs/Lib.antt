-- What is known behind the gate, and what a use of an open entry comes to there. Assumes nothing.
pub mod Behind
pub mod Standing
pub mod Known
pub mod Used
pub mod Gated
