-- What the contracts of `call_write` cite. Assumes nothing.
pub mod Settled
