-- The laws that the proofs of this crate cite. Assumes nothing.
pub mod Marking
pub mod Sharing
pub mod Families
pub mod Passing
pub mod RowCells
pub mod Listing
pub mod Lists
