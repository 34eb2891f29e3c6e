-- What the code of `filing` is. Assumes nothing.
pub mod Chain
