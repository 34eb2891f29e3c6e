-- What the code of `placing` is. Assumes nothing.
pub mod Laws
