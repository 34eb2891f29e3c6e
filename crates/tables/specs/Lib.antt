-- Records and openings, their cells, sound tables. Assumes nothing.
pub mod Layout
pub mod Fields
pub mod Handles
pub mod Records
pub mod Openings
pub mod Lists
pub mod Sound
pub mod Pointers
pub mod Told
pub mod Laws
