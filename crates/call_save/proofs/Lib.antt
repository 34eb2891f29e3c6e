-- What the code of `saving` does. Assumes nothing.
pub mod Laws
