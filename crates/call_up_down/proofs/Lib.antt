-- What the code of `call_up_down` does. Assumes nothing.
pub mod Reach
pub mod Laws
