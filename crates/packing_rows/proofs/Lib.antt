-- What the code of `rows` is. Assumes nothing.
pub mod Turns
pub mod Filled
pub mod Handed
