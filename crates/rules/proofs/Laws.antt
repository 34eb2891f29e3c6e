-- Laws whose definitions a must-fail edit turns. Assumes nothing.
pub mod Readable
pub mod Refusals
