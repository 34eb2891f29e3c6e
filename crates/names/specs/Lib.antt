-- Names. Assumes nothing.
pub mod Names
pub mod Laws
