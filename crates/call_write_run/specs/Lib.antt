-- What the contracts of `call_write_run` cite. Assumes nothing.
pub mod Turned
