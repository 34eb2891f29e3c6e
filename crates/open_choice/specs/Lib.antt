-- What a choice says. Assumes nothing.
pub mod Chosen
