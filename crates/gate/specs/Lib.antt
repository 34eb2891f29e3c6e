-- From lent cells to the opening that a call names. Assumes nothing.
pub mod Gates
pub mod Passed
