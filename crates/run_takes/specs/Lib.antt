-- The elements that a run takes from one stretch. Assumes nothing.
pub mod Takes
