-- What each deed does to the cells of an opening. Assumes nothing.
pub mod Deeded
pub mod Places
pub mod Back
pub mod Shared
pub mod Open
