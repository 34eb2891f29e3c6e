-- What users know after a request is the model's step of what they knew. Assumes nothing.
pub mod Sums
pub mod Counted
pub mod Elements
pub mod Deeds
pub mod Stores
pub mod Frames
pub mod Entries
pub mod Effects
pub mod Requests
