-- What the contracts of `call_up_down` cite. Assumes nothing.
pub mod Moved
