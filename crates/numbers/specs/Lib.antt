-- The numbers that elements stand for. Assumes nothing.
pub mod Numbers
pub mod Laws
