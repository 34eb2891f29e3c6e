-- What the code of `call_ask` does. Assumes nothing.
pub mod Fields
pub mod Asked
pub mod Laws
