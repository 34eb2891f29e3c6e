-- What the contracts of `run_puts` cite. Assumes nothing.
pub mod Puts
pub mod Laws
