-- Laws that the proofs of the code share. Assumes nothing.
pub mod Asks
pub mod Seats
pub mod Appends
pub mod Insides
pub mod Decides
