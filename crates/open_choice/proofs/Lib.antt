-- What the code of `choosing` is. Assumes nothing.
pub mod Chain
