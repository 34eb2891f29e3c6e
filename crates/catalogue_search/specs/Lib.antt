-- What a search is for. Assumes nothing.
pub mod Sought
