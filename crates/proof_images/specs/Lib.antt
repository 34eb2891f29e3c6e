-- Save then load, and load then save. Assumes nothing.
pub mod Closed
pub mod Lists
pub mod Sound
pub mod Images
pub mod Facts
pub mod Done
pub mod Roundtrip
