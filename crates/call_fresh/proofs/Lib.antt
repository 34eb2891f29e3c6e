-- What the code of `fresh` does. Assumes nothing.
pub mod Laws
