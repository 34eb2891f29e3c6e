-- What a plan to close says, and the chain of refusals in the code's parts. Assumes nothing.
pub mod Planned
