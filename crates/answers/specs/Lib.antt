-- What a call answers, and chains of refusals. Assumes nothing.
pub mod Said
pub mod Laws
