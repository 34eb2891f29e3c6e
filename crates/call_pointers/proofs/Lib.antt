-- What the calls on the pointers of an open file come to. Assumes nothing.
pub mod Laws
