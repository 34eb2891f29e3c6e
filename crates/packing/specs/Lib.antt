-- Digits of numbers, most significant first. Assumes nothing.
pub mod Packing
pub mod Laws
