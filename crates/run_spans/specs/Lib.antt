-- Positions of one stretch, one after another. Assumes nothing.
pub mod Ahead
pub mod Bits
pub mod Laws
