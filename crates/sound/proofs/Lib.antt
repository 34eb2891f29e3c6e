-- The law that the proof of this crate cites. Assumes nothing.
pub mod Order
