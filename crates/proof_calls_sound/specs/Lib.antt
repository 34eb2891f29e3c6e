-- Every call keeps sound tables sound, the lengths, and the cells beyond the segments. Assumes nothing.
pub mod Fresh
pub mod Starts
pub mod Runs
pub mod Keeps
