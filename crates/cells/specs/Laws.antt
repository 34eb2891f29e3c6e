-- The laws of this crate's definitions, which other crates cite. Assumes nothing.
pub mod Written
pub mod Runs
pub mod Refusals
pub mod Determined
pub mod Entered
pub mod Leaves
pub mod Uses
pub mod Catalogue
pub mod Lowered
pub mod Operator
pub mod Sized
pub mod Signed
