-- What the code of `counting` does. Assumes nothing.
pub mod Laws
