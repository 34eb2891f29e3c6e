-- What the contracts of `write_plan` cite. Assumes nothing.
pub mod Plans
