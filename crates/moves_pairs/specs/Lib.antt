-- The kinds of segments in moves. Assumes nothing.
pub mod Kinds
