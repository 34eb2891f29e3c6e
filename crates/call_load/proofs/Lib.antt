-- What the code of `loading` does. Assumes nothing.
pub mod Laws
