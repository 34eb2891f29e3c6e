-- What the code of `numbers` is. Assumes nothing.
pub mod Laws
