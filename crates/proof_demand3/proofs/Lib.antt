-- Demand 3: an opening that is abandoned leaves no trace. Assumes nothing.
pub mod Steps
pub mod Beside
pub mod Histories
pub mod Demand3
pub mod Premises
pub mod Told
pub mod ExceptedTidying
