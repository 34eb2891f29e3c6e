-- The laws that the proofs of the code cite, here and where rows of the tables are made of parts. Assumes nothing.
pub mod Made
pub mod Parts
