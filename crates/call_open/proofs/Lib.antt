-- What the code of `call_open` is. Assumes nothing.
pub mod Entry
pub mod Opened
