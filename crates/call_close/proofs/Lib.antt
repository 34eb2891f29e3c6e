-- What the code of `call_close` is. Assumes nothing.
pub mod Carried
pub mod Left
