-- What a segment is to a tidying. Assumes nothing.
pub mod Kinds
