-- Lines that are no calls. Assumes nothing.
pub mod Numbers
pub mod Buffers
pub mod Laws
pub mod Steps
