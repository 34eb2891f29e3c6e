-- Laws that the proofs of the loops share. Assumes nothing.
pub mod Filled
pub mod Counted
pub mod Put
pub mod Within
