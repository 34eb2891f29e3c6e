-- Demand 2: what users know after a call is the model's step of what they knew, and the answers agree. Assumes nothing.
pub mod Calls
pub mod Freed
pub mod Saves
pub mod Tidies
pub mod Runs
pub mod Demand2
