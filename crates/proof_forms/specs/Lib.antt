-- An image moved from one form to another: the proofs of demands/specs/Forms.antt. Assumes nothing.
pub mod Reach
pub mod Tables
pub mod Beside
pub mod Moved
pub mod Said
pub mod Up
pub mod Down
pub mod Back
